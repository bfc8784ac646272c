-- Children of which one isn't stored, and what is joined with it.
use Rattle.std.proofs.Common.{◌≡◌, ℕ, suc, ◌<◌, ◌≤◌, ◌+◌, Bool, true, false, List, [], ◌∷◌, ◌++◌, length, refl, sym, ap, ◌∙◌, subst, arith, append_assoc, append-nil, length-append, true≢false}
use Rattle.std.specs.Prelude.{Option, Some, None, IsTrue, Result, Ok, Err, OnOk}
use Rattle.std.specs.List.{list_all}
use Rattle.std.proofs.lemmas.Bool.{and_parts, and_from, ltb-true, lt-ltb}
use Rattle.forest_model.specs.declared.refusal.Refusal.{Refusal}
use Rattle.node_page.specs.Nodes.{Entry, rises}
use Rattle.btree_cow.specs.Shelf.{Shelf, Later, LieBelow}
use Rattle.btree_cow.specs.Trees.{lies_in, border, Fan, NodeAt, TreeAt}
use Rattle.btree_cow.specs.Changes.{StaysWell}
use Rattle.btree_cow.specs.Growing.{IsRead, Stands, Stores}
use Rattle.btree_cow.specs.Shrinking.{Content, Gap, IsNeighbour, IsPair, Refills, first_place, side_by_side, with_joined}
use Rattle.btree_cow.specs.declared.grown.Grown.{Grown}
use Rattle.btree_cow.specs.declared.grown.Grown.TheVariants.{One, Two}
use Rattle.btree_cow.proofs.Finds.{all_front, all_back, all_both}
use Rattle.btree_cow.proofs.Borders.{IsBelow, IsInside, at_least, below, lies}
use Rattle.btree_cow.proofs.Fans.{fan_split, tree_inside, tree_some}
use Rattle.btree_cow.proofs.WithEntries.{is_over, over_more}
use Rattle.btree_cow.proofs.Growth.{tree_later, tree_lower, tree_below, fan_over, under_next, rises_back}
use Rattle.btree_cow.proofs.Contents.{content_holds, content_of, contents_join, content_lies, fans_join, one_height, rises_join}
use Rattle.btree_cow.proofs.Pairs.{FitsIn, joined_at, put_in, same_split}

-- ---- borders

down : (n m : ℕ) (high : Option ℕ) → n ≤ m → IsBelow m high → IsBelow n high
down n m None le h = tt
down n m (Some b) le h = omega arith

some_inside : (n : ℕ) (high : Option ℕ) → IsBelow n high → IsInside (Some n) high
some_inside n None h = tt
some_inside n (Some b) h = omega arith

-- the next border, behind a child among rising ones
over_next : (low : ℕ) (high : Option ℕ) (c : Entry) (back : List Entry) → rises (c ∷ back) ≡ true → list_all (lies_in low high) (c ∷ back) ≡ true → IsInside (Some c.0) (border back high)
over_next low high c [] rise all = some_inside c.0 high (below low high c (and_parts (lies_in low high c) true all).0)
over_next low high c (b ∷ back) rise all =
    let more : c.0 < b.0 = ltb-true c.0 b.0 (and_parts (is_over c.0 b) (list_all (is_over c.0) back) (and_parts (list_all (is_over c.0) (b ∷ back)) (rises (b ∷ back)) rise).0).0 in
    omega arith

-- entries behind a border
behind_border : (n : ℕ) (back : List Entry) (high : Option ℕ) → rises back ≡ true → IsBelow n (border back high) → list_all (is_over n) back ≡ true
behind_border n [] high rise h = refl
behind_border n (b ∷ back) high rise h =
    let less : n < b.0 = h in
    and_from (is_over n b) (list_all (is_over n) back) (lt-ltb n b.0 less) (over_more n b.0 back (omega arith) (and_parts (list_all (is_over b.0) back) (rises back) rise).0)

border_under : (n low : ℕ) (back : List Entry) (high : Option ℕ) → list_all (lies_in low high) back ≡ true → IsBelow n (border back high) → IsBelow n high
border_under n low [] high all h = h
border_under n low (b ∷ back) high all h =
    let less : n < b.0 = h in
    down n b.0 high (omega arith) (below low high b (and_parts (lies_in low high b) (list_all (lies_in low high) back) all).0)

some_below : (low : ℕ) (high : Option ℕ) (es : List Entry) → 1 ≤ length es → list_all (lies_in low high) es ≡ true → IsBelow low high
some_below low high [] some all = absurd (omega arith)
some_below low high (e ∷ es) some all =
    let a = (and_parts (lies_in low high e) (list_all (lies_in low high) es) all).0 in
    down low e.0 high (at_least low high e a) (below low high e a)

tree_apart : (ok : ℕ → ℕ → Bool) (s : Shelf) (height least at low : ℕ) (high : Option ℕ) (es : List Entry) → TreeAt ok s height least at low high es → IsBelow low high
tree_apart ok s height least at low high es tree = some_below low high es (tree_some ok s height least at low high es tree) (tree_inside ok s height least at low high es tree)

-- ---- what became of a child, in its place

module _ (ok : ℕ → ℕ → Bool) (s : Shelf) (lie : LieBelow s) (height low : ℕ) (high : Option ℕ) (front : List Entry) (chosen : Entry) (back : List Entry) where
  abbrev Below : ℕ → ℕ → Option ℕ → List Entry → Type 0
  Below = TreeAt ok s height 126

  fits_in : (grown : Grown) (own : List Entry) → rises back ≡ true → Stands ok s height 126 grown chosen.0 (border back high) own → FitsIn chosen.0 grown back
  fits_in (One block) own rise stands = tt
  fits_in (Two left right) own rise stands =
      let less : left.0 < right.0 = tree_apart ok s height 126 left.1 left.0 (Some right.0) stands.0 stands.4 in
      (omega (arith, stands.3), behind_border right.0 back high rise (tree_apart ok s height 126 right.1 right.0 (border back high) stands.1 stands.5))

  placed_lies : (grown : Grown) (own : List Entry) → list_all (lies_in low high) (front ++ chosen ∷ back) ≡ true → Stands ok s height 126 grown chosen.0 (border back high) own
      → list_all (lies_in low high) (front ++ put_in chosen.0 grown back) ≡ true
  placed_lies (One block) own all stands =
      all_both (lies_in low high) front ((chosen.0, block) ∷ back) (all_front (lies_in low high) front (chosen ∷ back) all) (all_back (lies_in low high) front (chosen ∷ back) all)
  placed_lies (Two left right) own all stands =
      let behind = and_parts (lies_in low high chosen) (list_all (lies_in low high) back) (all_back (lies_in low high) front (chosen ∷ back) all) in
      let first : Entry = (chosen.0, left.1) in
      let up : low ≤ chosen.0 = at_least low high chosen behind.0 in
      let less : left.0 < right.0 = tree_apart ok s height 126 left.1 left.0 (Some right.0) stands.0 stands.4 in
      let under : IsBelow right.0 high = border_under right.0 low back high behind.1 (tree_apart ok s height 126 right.1 right.0 (border back high) stands.1 stands.5) in
      all_both (lies_in low high) front (first ∷ right ∷ back) (all_front (lies_in low high) front (chosen ∷ back) all)
      (and_from (lies_in low high first) (list_all (lies_in low high) (right ∷ back)) behind.0
      (and_from (lies_in low high right) (list_all (lies_in low high) back) (lies low high right (omega (arith, stands.3)) under) behind.1))

  placed_fan : (grown : Grown) (first own rest : List Entry) → Fan Below s.used front (Some chosen.0) first → Stands ok s height 126 grown chosen.0 (border back high) own → Fan Below s.used back high rest
      → Fan Below s.used (front ++ put_in chosen.0 grown back) high (first ++ (own ++ rest))
  placed_fan (One block) first own rest ahead stands behind =
      let c : Entry = (chosen.0, block) in
      fans_join Below s.used front (c ∷ back) high first (own ++ rest) ahead (tree_below ok s lie height 126 block chosen.0 (border back high) own stands, own, rest, refl, stands, behind)
  placed_fan (Two left right) first own rest ahead stands behind =
      let c : Entry = (chosen.0, left.1) in
      fans_join Below s.used front (c ∷ right ∷ back) high first (own ++ rest) ahead (
        tree_below ok s lie height 126 left.1 left.0 (Some right.0) stands.0 stands.4,
        stands.0,
        stands.1 ++ rest,
        ap (λ (l : List Entry). l ++ rest) stands.2 ∙ append_assoc stands.0 stands.1 rest,
        tree_lower ok s height 126 left.1 left.0 chosen.0 (Some right.0) stands.0 stands.3 stands.4,
        (tree_below ok s lie height 126 right.1 right.0 (border back high) stands.1 stands.5, stands.1, rest, refl, stands.5, behind),
      )

  placed_some : (grown : Grown) → length front + 1 + length back ≤ length (front ++ put_in chosen.0 grown back)
  placed_some (One block) = omega (arith, length-append front ((chosen.0, block) ∷ back))
  placed_some (Two left right) = omega (arith, length-append front ((chosen.0, left.1) ∷ right ∷ back))

  pub placed : (grown : Grown) (first own rest : List Entry) → list_all (lies_in low high) (front ++ chosen ∷ back) ≡ true
      → Fan Below s.used front (Some chosen.0) first → Stands ok s height 126 grown chosen.0 (border back high) own → Fan Below s.used back high rest
      → Content ok s (suc height) false (front ++ put_in chosen.0 grown back) low high (first ++ (own ++ rest))
  placed grown first own rest all ahead stands behind =
      (refl, omega (arith, placed_some grown), placed_lies grown own all stands, placed_fan grown first own rest ahead stands behind)

-- ---- one child that isn't stored, between the others

module _ (ok : ℕ → ℕ → Bool) (s : Shelf) (height : ℕ) (high : Option ℕ) where
  -- what stands around a child, and the child's content
  abbrev pub Pieces : Bool → List Entry → List Entry → Entry → List Entry → List Entry → Type 0
  Pieces leaf content front chosen back entries =
      (first : List Entry) × (own : List Entry) × (rest : List Entry) × (entries ≡ first ++ (own ++ rest))
      × Fan (TreeAt ok s height 126) s.used front (Some chosen.0) first × Content ok s height leaf content chosen.0 (border back high) own
      × Fan (TreeAt ok s height 126) s.used back high rest

  -- joined with the child behind it
  join_behind : (leaf : Bool) (content other front : List Entry) (left right : Entry) (back entries : List Entry) → left.0 < right.0 → IsInside (Some right.0) (border back high)
      → ((own : List Entry) → TreeAt ok s height 126 right.1 right.0 (border back high) own → Content ok s height leaf other right.0 (border back high) own)
      → Pieces leaf content front left (right ∷ back) entries → Pieces leaf (content ++ other) front left back entries
  join_behind leaf content other front left right back entries less inside read p =
      let behind = p.6 in (
        p.0,
        p.1 ++ behind.1,
        behind.2,
        p.3 ∙ ap (λ (l : List Entry). p.0 ++ l) (ap (λ (l : List Entry). p.1 ++ l) behind.3 ∙ sym (append_assoc p.1 behind.1 behind.2)),
        p.4,
        contents_join ok s height leaf content other left.0 right.0 (border back high) p.1 behind.1 (omega arith) inside p.5 (read behind.1 behind.4),
        behind.5,
      )

  -- joined with the child in front of it
  join_front : (leaf : Bool) (content other front : List Entry) (left right : Entry) (back entries : List Entry) → left.0 < right.0 → IsInside (Some right.0) (border back high)
      → ((own : List Entry) → TreeAt ok s height 126 left.1 left.0 (Some right.0) own → Content ok s height leaf other left.0 (Some right.0) own)
      → Pieces leaf content (front ++ left ∷ []) right back entries → Pieces leaf (other ++ content) front left back entries
  join_front leaf content other front left right back entries less inside read p =
      let parts = fan_split (TreeAt ok s height 126) s.used front (left ∷ []) (Some right.0) p.0 p.4 in
      let last : Fan (TreeAt ok s height 126) s.used (left ∷ []) (Some right.0) parts.1 = parts.4 in
      let whole : parts.1 ≡ last.1 = last.3 ∙ ap (λ (l : List Entry). last.1 ++ l) last.5 ∙ append-nil last.1 in (
        parts.0,
        last.1 ++ p.1,
        p.2,
        p.3 ∙ ap (λ (l : List Entry). l ++ (p.1 ++ p.2)) (parts.2 ∙ ap (λ (l : List Entry). parts.0 ++ l) whole) ∙ append_assoc parts.0 last.1 (p.1 ++ p.2)
            ∙ ap (λ (l : List Entry). parts.0 ++ l) (sym (append_assoc last.1 p.1 p.2)),
        parts.3,
        contents_join ok s height leaf other content left.0 right.0 (border back high) last.1 p.1 (omega arith) inside (read last.1 last.4) p.5,
        p.6,
      )

  -- the pieces at another split of the same children
  pieces_at : (leaf : Bool) (content a b : List Entry) (x y : Entry) (u v entries : List Entry) → a ≡ b → x ≡ y → u ≡ v → Pieces leaf content a x u entries → Pieces leaf content b y v entries
  pieces_at leaf content a b x y u v entries e f g p =
      subst (λ (l : List Entry). Pieces leaf content b y l entries) g
      (subst (λ (c : Entry). Pieces leaf content b c u entries) f (subst (λ (l : List Entry). Pieces leaf content l x u entries) e p))

-- ---- a gap beside a neighbour

-- the content of a neighbour, wherever it stands
abbrev Reads : (ℕ → ℕ → Bool) → Shelf → ℕ → ℕ → Bool → List Entry → Type 0
Reads ok s height block leaf other =
    (low : ℕ) (high : Option ℕ) (own : List Entry) → TreeAt ok s height 126 block low high own → Content ok s height leaf other low high own × (126 ≤ length other)

-- two neighbours together, in the place of the first one
record Joins (ok : ℕ → ℕ → Bool) (s : Shelf) (height : ℕ) (leaf : Bool) (joined children : List Entry) (n low : ℕ) (high : Option ℕ) (entries : List Entry) : Type 0 where
  front : List Entry
  left : Entry
  right : Entry
  back : List Entry
  split : children ≡ front ++ left ∷ right ∷ back
  here : length front ≡ n
  pieces : Pieces ok s height high leaf joined front left back entries
  lies : list_all (lies_in low high) (front ++ left ∷ right ∷ back) ≡ true
  rise : rises (front ++ left ∷ right ∷ back) ≡ true
  long : 126 ≤ length joined

module _ (ok : ℕ → ℕ → Bool) (s : Shelf) (height : ℕ) (leaf : Bool) (content other children : List Entry) (place low : ℕ) (high : Option ℕ) (entries : List Entry) (gap : Gap ok s height leaf content children place low high entries) (rise : rises children ≡ true) where
  abbrev gap_pieces : Pieces ok s height high leaf content gap.before gap.chosen gap.after entries
  gap_pieces = (gap.first, gap.own, gap.rest, gap.together, gap.ahead, gap.holds, gap.behind)

  -- the two chunks and the border behind them
  apart : (front : List Entry) (left right : Entry) (back : List Entry) → children ≡ front ++ left ∷ right ∷ back → (left.0 < right.0) × IsInside (Some right.0) (border back high)
  apart front left right back split =
      let rise' = rises_back front (left ∷ right ∷ back) (ap rises (sym split) ∙ rise) in
      let lies' = all_back (lies_in low high) front (left ∷ right ∷ back) (ap (list_all (lies_in low high)) (sym split) ∙ gap.lies) in
      let parts = and_parts (list_all (is_over left.0) (right ∷ back)) (rises (right ∷ back)) rise' in (
        ltb-true left.0 right.0 (and_parts (is_over left.0 right) (list_all (is_over left.0) back) parts.0).0,
        over_next low high right back parts.1 (and_parts (lies_in low high left) (list_all (lies_in low high) (right ∷ back)) lies').1,
      )

  behind_pieces : (left right : Entry) (pair : IsPair children place left right) → Pieces ok s height high leaf content pair.front left (right ∷ pair.back) entries
  behind_pieces left right pair =
      let same = same_split gap.before pair.front gap.chosen left gap.after (right ∷ pair.back) (sym gap.split ∙ pair.split) (gap.here ∙ sym pair.here) in
      pieces_at ok s height high leaf content gap.before pair.front gap.chosen left gap.after (right ∷ pair.back) entries same.0 same.1 same.2 gap_pieces

  front_pieces : (before : ℕ) (left right : Entry) → place ≡ before + 1 → (pair : IsPair children before left right) → Pieces ok s height high leaf content (pair.front ++ left ∷ []) right pair.back entries
  front_pieces before left right next pair =
      let again : pair.front ++ left ∷ right ∷ pair.back ≡ (pair.front ++ left ∷ []) ++ right ∷ pair.back = sym (append_assoc pair.front (left ∷ []) (right ∷ pair.back)) in
      let same = same_split gap.before (pair.front ++ left ∷ []) gap.chosen right gap.after pair.back (sym gap.split ∙ pair.split ∙ again)
      (omega (arith, gap.here, pair.here, next, length-append pair.front (left ∷ []))) in
      pieces_at ok s height high leaf content gap.before (pair.front ++ left ∷ []) gap.chosen right gap.after pair.back entries same.0 same.1 same.2 gap_pieces

  -- a neighbour is of the same kind, and the chunks rise
  pub alike : (in_front : Bool) (block : ℕ) (leaf' : Bool) → IsNeighbour children place in_front block → Reads ok s height block leaf' other → leaf' ≡ leaf
  alike true block leaf' is reads =
      let p = front_pieces is.0 is.2 is.3 is.1 is.4 in
      let parts = fan_split (TreeAt ok s height 126) s.used is.4.front (is.2 ∷ []) (Some is.3.0) p.0 p.4 in
      let last : Fan (TreeAt ok s height 126) s.used (is.2 ∷ []) (Some is.3.0) parts.1 = parts.4 in
      let c = (reads is.2.0 (Some is.3.0) last.1 (subst (λ (n : ℕ). TreeAt ok s height 126 n is.2.0 (Some is.3.0) last.1) is.5 last.4)).0 in
      one_height ok s height leaf' leaf other content is.2.0 is.3.0 (Some is.3.0) (border is.4.back high) last.1 p.1 c p.5
  alike false block leaf' is reads =
      let p = behind_pieces is.0 is.1 is.2 in
      let c = (reads is.1.0 (border is.2.back high) p.6.1 (subst (λ (n : ℕ). TreeAt ok s height 126 n is.1.0 (border is.2.back high) p.6.1) is.3 p.6.4)).0 in
      one_height ok s height leaf' leaf other content is.1.0 is.0.0 (border is.2.back high) (Some is.1.0) p.6.1 p.1 c p.5

  pub beside_rises : (in_front : Bool) (block : ℕ) → IsNeighbour children place in_front block → Reads ok s height block leaf other → rises content ≡ true → rises other ≡ true → rises (side_by_side in_front other content) ≡ true
  beside_rises true block is reads rise_own rise_other =
      let p = front_pieces is.0 is.2 is.3 is.1 is.4 in
      let parts = fan_split (TreeAt ok s height 126) s.used is.4.front (is.2 ∷ []) (Some is.3.0) p.0 p.4 in
      let last : Fan (TreeAt ok s height 126) s.used (is.2 ∷ []) (Some is.3.0) parts.1 = parts.4 in
      let c = (reads is.2.0 (Some is.3.0) last.1 (subst (λ (n : ℕ). TreeAt ok s height 126 n is.2.0 (Some is.3.0) last.1) is.5 last.4)).0 in
      rises_join other content is.2.0 is.3.0 (border is.4.back high) rise_other rise_own (content_lies ok s height leaf other is.2.0 (Some is.3.0) last.1 c) (content_lies ok s height leaf content is.3.0 (border is.4.back high) p.1 p.5)
  beside_rises false block is reads rise_own rise_other =
      let p = behind_pieces is.0 is.1 is.2 in
      let c = (reads is.1.0 (border is.2.back high) p.6.1 (subst (λ (n : ℕ). TreeAt ok s height 126 n is.1.0 (border is.2.back high) p.6.1) is.3 p.6.4)).0 in
      rises_join content other is.0.0 is.1.0 (border is.2.back high) rise_own rise_other (content_lies ok s height leaf content is.0.0 (Some is.1.0) p.1 p.5) (content_lies ok s height leaf other is.1.0 (border is.2.back high) p.6.1 c)

  joins : (in_front : Bool) (block : ℕ) → IsNeighbour children place in_front block → Reads ok s height block leaf other → Joins ok s height leaf (side_by_side in_front other content) children (first_place in_front place) low high entries
  joins true block is reads =
      let p = front_pieces is.0 is.2 is.3 is.1 is.4 in
      let parts = fan_split (TreeAt ok s height 126) s.used is.4.front (is.2 ∷ []) (Some is.3.0) p.0 p.4 in
      let last : Fan (TreeAt ok s height 126) s.used (is.2 ∷ []) (Some is.3.0) parts.1 = parts.4 in
      let read : (own : List Entry) → TreeAt ok s height 126 is.2.1 is.2.0 (Some is.3.0) own → Content ok s height leaf other is.2.0 (Some is.3.0) own × (126 ≤ length other) =
      λ own t. reads is.2.0 (Some is.3.0) own (subst (λ (n : ℕ). TreeAt ok s height 126 n is.2.0 (Some is.3.0) own) is.5 t) in
      let between = apart is.4.front is.2 is.3 is.4.back is.4.split in
      record {
        front = is.4.front;
        left = is.2;
        right = is.3;
        back = is.4.back;
        split = is.4.split;
        here = omega (arith, is.1, is.4.here);
        pieces = join_front ok s height high leaf content other is.4.front is.2 is.3 is.4.back entries between.0 between.1 (λ own t. (read own t).0) p;
        lies = ap (list_all (lies_in low high)) (sym is.4.split) ∙ gap.lies;
        rise = ap rises (sym is.4.split) ∙ rise;
        long = omega (arith, (read last.1 last.4).1, length-append other content);
      }
  joins false block is reads =
      let p = behind_pieces is.0 is.1 is.2 in
      let read : (own : List Entry) → TreeAt ok s height 126 is.1.1 is.1.0 (border is.2.back high) own → Content ok s height leaf other is.1.0 (border is.2.back high) own × (126 ≤ length other) =
      λ own t. reads is.1.0 (border is.2.back high) own (subst (λ (n : ℕ). TreeAt ok s height 126 n is.1.0 (border is.2.back high) own) is.3 t) in
      let between = apart is.2.front is.0 is.1 is.2.back is.2.split in
      record {
        front = is.2.front;
        left = is.0;
        right = is.1;
        back = is.2.back;
        split = is.2.split;
        here = is.2.here;
        pieces = join_behind ok s height high leaf content other is.2.front is.0 is.1 is.2.back entries between.0 between.1 (λ own t. (read own t).0) p;
        lies = ap (list_all (lies_in low high)) (sym is.2.split) ∙ gap.lies;
        rise = ap rises (sym is.2.split) ∙ rise;
        long = omega (arith, (read p.6.1 p.6.4).1, length-append content other);
      }

-- the two together are stored, and stand in their place
filled : (ok : ℕ → ℕ → Bool) (old new : Shelf) (height : ℕ) (leaf : Bool) (joined children : List Entry) (n low : ℕ) (high : Option ℕ) (entries : List Entry) (grown : Grown) → StaysWell ok → LieBelow new → Later old new
    → Joins ok old height leaf joined children n low high entries → Stores leaf joined old new grown
    → Content ok new (suc height) false (with_joined children n grown) low high entries × (length children ≤ length (with_joined children n grown) + 1)
filled ok old new height leaf joined children n low high entries grown well lie later j stores =
    let p = j.pieces in
    let stands : Stands ok new height 126 grown j.left.0 (border j.back high) p.1 =
    stores.each ok height 126 j.left.0 (border j.back high) p.1 well j.long (content_holds ok old height leaf joined j.left.0 (border j.back high) p.1 (omega (arith, j.long)) p.5) in
    let move : (at low : ℕ) (high : Option ℕ) (es : List Entry) → TreeAt ok old height 126 at low high es → TreeAt ok new height 126 at low high es = λ a l h es t. tree_later ok old new later height 126 a l h es t in
    let ahead = fan_over (TreeAt ok old height 126) (TreeAt ok new height 126) move old.used new.used later.used j.front (Some j.left.0) p.0 p.4 in
    let behind = fan_over (TreeAt ok old height 126) (TreeAt ok new height 126) move old.used new.used later.used j.back high p.2 p.6 in
    let rise' = rises_back j.front (j.left ∷ j.right ∷ j.back) j.rise in
    let back_rise = (and_parts (list_all (is_over j.right.0) j.back) (rises j.back) (and_parts (list_all (is_over j.left.0) (j.right ∷ j.back)) (rises (j.right ∷ j.back)) rise').1).1 in
    let chosen_lies : list_all (lies_in low high) (j.front ++ j.left ∷ j.back) ≡ true =
    all_both (lies_in low high) j.front (j.left ∷ j.back) (all_front (lies_in low high) j.front (j.left ∷ j.right ∷ j.back) j.lies)
    (let a = and_parts (lies_in low high j.left) (list_all (lies_in low high) (j.right ∷ j.back)) (all_back (lies_in low high) j.front (j.left ∷ j.right ∷ j.back) j.lies) in
    and_from (lies_in low high j.left) (list_all (lies_in low high) j.back) a.0 (and_parts (lies_in low high j.right) (list_all (lies_in low high) j.back) a.1).1) in
    let whole = placed ok new lie height low high j.front j.left j.back grown p.0 p.1 p.2 chosen_lies ahead stands behind in
    let is : j.front ++ put_in j.left.0 grown j.back ≡ with_joined children n grown =
    sym (ap (λ (l : List Entry). with_joined l n grown) j.split
    ∙ joined_at j.front j.left j.right j.back n grown j.here (under_next j.front (j.left ∷ j.right ∷ j.back) (omega arith) j.rise) (fits_in ok new lie height low high j.front j.left j.back grown p.1 back_rise stands)) in
    let long : length children ≤ length (j.front ++ put_in j.left.0 grown j.back) + 1 =
    omega (arith, ap (λ (l : List Entry). length l) j.split, length-append j.front (j.left ∷ j.right ∷ j.back), placed_some ok new lie height low high j.front j.left j.back grown) in (
      subst (λ (l : List Entry). Content ok new (suc height) false l low high entries) is (subst (λ (l : List Entry). Content ok new (suc height) false (j.front ++ put_in j.left.0 grown j.back) low high l) (sym p.3) whole),
      subst (λ (l : List Entry). length children ≤ length l + 1) is long,
    )

pub refills : (old new : Shelf) (leaf : Bool) (content other children : List Entry) (place block n : ℕ) (in_front : Bool) (grown : Grown) → LieBelow old → LieBelow new → Later old new → rises children ≡ true → n ≡ first_place in_front place
    → IsNeighbour children place in_front block → NodeAt old block leaf other → Stores leaf (side_by_side in_front other content) old new grown → Refills leaf content children place old new (with_joined children n grown)
refills old new leaf content other children place block n in_front grown lie lie' later rise first is node stores =
    record {
      each = λ ok height low high entries well two gap.
          let reads : Reads ok old height block leaf other = λ low high own t. content_of ok old height 126 block leaf other low high own well lie node t in
          let j = joins ok old height leaf content other children place low high entries gap rise in_front block is reads in
          subst (λ (k : ℕ). Content ok new (suc height) false (with_joined children k grown) low high entries × (length children ≤ length (with_joined children k grown) + 1)) (sym first)
          (filled ok old new height leaf (side_by_side in_front other content) children (first_place in_front place) low high entries grown well lie' later j stores);
    }

-- on no tree a neighbour can't be joined
pub never_alone : (old new : Shelf) (leaf leaf' : Bool) (content other children after : List Entry) (place block : ℕ) (in_front : Bool) → LieBelow old → rises children ≡ true → rises content ≡ true → rises other ≡ true
    → IsNeighbour children place in_front block → NodeAt old block leaf' other → (leaf' ≡ leaf → rises (side_by_side in_front other content) ≡ false) → Refills leaf content children place old new after
never_alone old new leaf leaf' content other children after place block in_front lie rise rise_own rise_other is node none =
    record {
      each = λ ok height low high entries well two gap.
          let reads : Reads ok old height block leaf' other = λ low high own t. content_of ok old height 126 block leaf' other low high own well lie node t in
          let same : leaf' ≡ leaf = alike ok old height leaf content other children place low high entries gap rise in_front block leaf' is reads in
          let reads' : Reads ok old height block leaf other = subst (λ (b : Bool). Reads ok old height block b other) same reads in
          absurd (true≢false (sym (beside_rises ok old height leaf content other children place low high entries gap rise in_front block is reads' rise_own rise_other) ∙ none same));
    }

-- ---- as the code has it

pub filled_gap : (tells : Bool) (old mid new : Shelf) (leaf leaf' : Bool) (content other children read slice joined after : List Entry) (place block n : ℕ) (in_front : Bool) (grown : Grown) → IsTrue tells → LieBelow old → LieBelow new → mid ≡ old → Later mid new
    → rises children ≡ true → n ≡ first_place in_front place → read ≡ children → IsNeighbour read place in_front block → IsRead tells old block leaf' other → leaf' ≡ leaf → slice ≡ joined → joined ≡ side_by_side in_front other content
    → Stores leaf slice mid new grown → after ≡ with_joined children n grown → Refills leaf content children place old new after
filled_gap tells old mid new leaf leaf' content other children read slice joined after place block n in_front grown told lie lie' kept later rise first same is node alike sliced beside stores put =
    subst (λ (l : List Entry). Refills leaf content children place old new l) (sym put)
    (refills old new leaf content other children place block n in_front grown lie lie' (subst (λ (m : Shelf). Later m new) kept later) rise first
    (subst (λ (l : List Entry). IsNeighbour l place in_front block) same is) (subst (λ (b : Bool). NodeAt old block b other) alike (node.node told))
    (subst (λ (l : List Entry). Stores leaf l old new grown) (sliced ∙ beside) (subst (λ (m : Shelf). Stores leaf slice m new grown) kept stores)))

pub alone_gap : (tells : Bool) (old new : Shelf) (r : Result (Unit {0}) Refusal) (leaf leaf' : Bool) (content other children read after : List Entry) (place block : ℕ) (in_front : Bool) → IsTrue tells → LieBelow old → rises children ≡ true → rises content ≡ true
    → read ≡ children → IsNeighbour read place in_front block → IsRead tells old block leaf' other → (leaf' ≡ leaf → rises (side_by_side in_front other content) ≡ false) → OnOk r (Refills leaf content children place old new after)
alone_gap tells old new (Ok u) leaf leaf' content other children read after place block in_front told lie rise rise_own same is node none =
    never_alone old new leaf leaf' content other children after place block in_front lie rise rise_own node.rise (subst (λ (l : List Entry). IsNeighbour l place in_front block) same is) (node.node told) none
alone_gap tells old new (Err e) leaf leaf' content other children read after place block in_front told lie rise rise_own same is node none = tt
