-- A child's place in its node, taken by what came of the child.
use Rattle.std.proofs.Common.{◌≡◌, ◌⊎◌, inl, inr, ℕ, suc, ◌<◌, ◌≤◌, ◌+◌, min, Bool, true, false, List, [], ◌∷◌, ◌++◌, length, set, get_or, refl, sym, ap, ◌∙◌, subst, arith, append_assoc, length-append}
use Rattle.std.specs.Prelude.{Option, Some, None, IsTrue}
use Rattle.std.specs.List.{list_all}
use Rattle.std.proofs.lemmas.Bool.{and_parts, and_from, ltb-true, lt-ltb}
use Rattle.std.proofs.lemmas.List.{get_or_at, set_at, length-set}
use Rattle.node_page.specs.Nodes.{Entry, rises}
use Rattle.btree_cow.specs.Shelf.{Shelf, Later, LieBelow}
use Rattle.btree_cow.specs.Trees.{lies_in, border, Fan, TreeAt}
use Rattle.btree_cow.specs.Changes.{with_entry, StaysWell}
use Rattle.btree_cow.specs.Growing.{Holds, Stands, Puts, IsCut, with_block, with_child}
use Rattle.btree_cow.specs.declared.grown.Grown.{Grown}
use Rattle.btree_cow.specs.declared.grown.Grown.TheVariants.{One, Two}
use Rattle.btree_cow.proofs.Finds.{all_so, all_front, all_back, all_both}
use Rattle.btree_cow.proofs.Borders.{IsBelow, at_least, below, lies, raise, border_append}
use Rattle.btree_cow.proofs.Fans.{fan_split, fan_inside, tree_inside, tree_some}
use Rattle.btree_cow.proofs.WithEntries.{is_over, is_under, over_more, with_within, with_between, with_long, with_rises}
use Rattle.btree_cow.proofs.Growth.{tree_later, tree_lower, tree_below, fan_over, under_next, rises_front, rises_back}

-- ---- borders

below_down : (n m : ℕ) (high : Option ℕ) → n ≤ m → IsBelow m high → IsBelow n high
below_down n m None le h = tt
below_down n m (Some b) le h = omega arith

below_border : (chunk : ℕ) (after : List Entry) (high : Option ℕ) → list_all (is_over chunk) after ≡ true → IsBelow chunk high → IsBelow chunk (border after high)
below_border chunk [] high over h = h
below_border chunk (a ∷ after) high over h = ltb-true chunk a.0 (and_parts (is_over chunk a) (list_all (is_over chunk) after) over).0

over_border : (n : ℕ) (after : List Entry) (high : Option ℕ) → rises after ≡ true → IsBelow n (border after high) → list_all (is_over n) after ≡ true
over_border n [] high rise h = refl
over_border n (a ∷ after) high rise h =
    let less : n < a.0 = h in
    and_from (is_over n a) (list_all (is_over n) after) (lt-ltb n a.0 less) (over_more n a.0 after (omega arith) (and_parts (list_all (is_over a.0) after) (rises after) rise).0)

border_below : (n low : ℕ) (after : List Entry) (high : Option ℕ) → list_all (lies_in low high) after ≡ true → IsBelow n (border after high) → IsBelow n high
border_below n low [] high all h = h
border_below n low (a ∷ after) high all h =
    let less : n < a.0 = h in
    below_down n a.0 high (omega arith) (below low high a (and_parts (lies_in low high a) (list_all (lies_in low high) after) all).0)

-- a tree has an entry in its borders
borders_of : (low : ℕ) (high : Option ℕ) (es : List Entry) → 1 ≤ length es → list_all (lies_in low high) es ≡ true → IsBelow low high
borders_of low high [] some all = absurd (omega arith)
borders_of low high (e ∷ es) some all =
    let a = (and_parts (lies_in low high e) (list_all (lies_in low high) es) all).0 in
    below_down low e.0 high (at_least low high e a) (below low high e a)

tree_borders : (ok : ℕ → ℕ → Bool) (s : Shelf) (height least at low : ℕ) (high : Option ℕ) (es : List Entry) → TreeAt ok s height least at low high es → IsBelow low high
tree_borders ok s height least at low high es tree = borders_of low high es (tree_some ok s height least at low high es tree) (tree_inside ok s height least at low high es tree)

-- ---- fans

fan_join : (Below : ℕ → ℕ → Option ℕ → List Entry → Type 0) (at : ℕ) (xs ys : List Entry) (high : Option ℕ) (e1 e2 : List Entry) → Fan Below at xs (border ys high) e1 → Fan Below at ys high e2 → Fan Below at (xs ++ ys) high (e1 ++ e2)
fan_join Below at [] ys high e1 e2 none fan = subst (λ (l : List Entry). Fan Below at ys high (l ++ e2)) (sym none) fan
fan_join Below at (x ∷ xs) ys high e1 e2 front fan = (
  front.0,
  front.1,
  front.2 ++ e2,
  ap (λ (l : List Entry). l ++ e2) front.3 ∙ append_assoc front.1 front.2 e2,
  subst (λ (b : Option ℕ). Below x.1 x.0 b front.1) (sym (border_append xs ys high)) front.4,
  fan_join Below at xs ys high front.2 e2 front.5 fan,
)

module _ (Below : ℕ → ℕ → Option ℕ → List Entry → Type 0) (inside : (at low : ℕ) (high : Option ℕ) (es : List Entry) → Below at low high es → list_all (lies_in low high) es ≡ true) where
  fan_under : (at n : ℕ) (children entries : List Entry) → list_all (is_under n) children ≡ true → Fan Below at children (Some n) entries → list_all (is_under n) entries ≡ true
  fan_under at n children entries h fan =
      all_so (lies_in 0 (Some n)) (is_under n) (λ e l. lt-ltb e.0 n (below 0 (Some n) e l)) entries
      (fan_inside Below inside at 0 (Some n) children entries
      (all_so (is_under n) (lies_in 0 (Some n)) (λ e l. lies 0 (Some n) e (omega arith) (ltb-true e.0 n l)) children h) fan)

  fan_above : (at low n : ℕ) (high : Option ℕ) (children entries : List Entry) → list_all (lies_in low high) children ≡ true → list_all (is_over n) children ≡ true → Fan Below at children high entries → list_all (is_over n) entries ≡ true
  fan_above at low n high children entries all h fan =
      all_so (lies_in (n + 1) high) (is_over n) (λ e l. let up : n + 1 ≤ e.0 = at_least (n + 1) high e l in lt-ltb n e.0 (omega arith)) entries
      (fan_inside Below inside at (n + 1) high children entries (raise low n high children all h) fan)

  -- entries before a child lie below a chunk that goes into it
  front_under : (at chunk : ℕ) (before entries : List Entry) (chosen : Entry) → list_all (is_under chosen.0) before ≡ true → (chosen.0 ≤ chunk) ⊎ (before ≡ [])
      → Fan Below at before (Some chosen.0) entries → list_all (is_under chunk) entries ≡ true
  front_under at chunk before entries chosen h (inl low) fan =
      all_so (is_under chosen.0) (is_under chunk) (λ e l. let less : e.0 < chosen.0 = ltb-true e.0 chosen.0 l in lt-ltb e.0 chunk (omega arith)) entries (fan_under at chosen.0 before entries h fan)
  front_under at chunk before entries chosen h (inr none) fan =
      let empty : Fan Below at [] (Some chosen.0) entries = subst (λ (l : List Entry). Fan Below at l (Some chosen.0) entries) none fan in
      ap (list_all (is_under chunk)) empty

-- the border of a child that takes a chunk, and what comes before it
front_under_border : (chunk : ℕ) (before : List Entry) (chosen : Entry) → list_all (is_under chosen.0) before ≡ true → (chosen.0 ≤ chunk) ⊎ (before ≡ []) → list_all (is_under (min chosen.0 chunk)) before ≡ true
front_under_border chunk before chosen h (inl low) =
    let same : chosen.0 ≡ min chosen.0 chunk = omega arith in
    subst (λ (n : ℕ). list_all (is_under n) before ≡ true) same h
front_under_border chunk before chosen h (inr none) = subst (λ (l : List Entry). list_all (is_under (min chosen.0 chunk)) l ≡ true) (sym none) refl

front_fan : (Below : ℕ → ℕ → Option ℕ → List Entry → Type 0) (at chunk : ℕ) (before entries : List Entry) (chosen : Entry) → (chosen.0 ≤ chunk) ⊎ (before ≡ []) → Fan Below at before (Some chosen.0) entries → Fan Below at before (Some (min chosen.0 chunk)) entries
front_fan Below at chunk before entries chosen (inl low) fan =
    let same : chosen.0 ≡ min chosen.0 chunk = omega arith in
    subst (λ (n : ℕ). Fan Below at before (Some n) entries) same fan
front_fan Below at chunk before entries chosen (inr none) fan =
    let empty : Fan Below at [] (Some chosen.0) entries = subst (λ (l : List Entry). Fan Below at l (Some chosen.0) entries) none fan in
    subst (λ (l : List Entry). Fan Below at l (Some (min chosen.0 chunk)) entries) (sym none) empty

-- ---- the new content

pub block_at : (before : List Entry) (chosen : Entry) (after : List Entry) (n chunk block : ℕ) → length before ≡ n → with_block (before ++ chosen ∷ after) n chunk block ≡ before ++ (min chosen.0 chunk, block) ∷ after
block_at before chosen after n chunk block place =
    ap (λ (e : Entry). set (before ++ chosen ∷ after) n (min e.0 chunk, block)) (get_or_at before chosen after (0, 0) n place)
    ∙ set_at before chosen after (min chosen.0 chunk, block) n place

-- a chunk that lies above the child's border and below the next one
pair_at : (before : List Entry) (m left right value : ℕ) (after : List Entry) → list_all (is_under m) before ≡ true → m < right → list_all (is_over right) after ≡ true
    → with_entry (before ++ (m, left) ∷ after) right value ≡ before ++ (m, left) ∷ (right, value) ∷ after
pair_at before m left right value after under less over =
    let one : Entry = (m, left) in
    let all : list_all (is_under right) (before ++ one ∷ []) ≡ true =
    all_both (is_under right) before (one ∷ []) (all_so (is_under m) (is_under right) (λ e l. let lower : e.0 < m = ltb-true e.0 m l in lt-ltb e.0 right (omega arith)) before under)
    (and_from (is_under right one) true (lt-ltb m right less) refl) in
    ap (λ (l : List Entry). with_entry l right value) (sym (append_assoc before (one ∷ []) after))
    ∙ with_between (before ++ one ∷ []) after right value all over
    ∙ append_assoc before (one ∷ []) ((right, value) ∷ after)

-- ---- rising chunks and the length

rises_around : (before : List Entry) (e : Entry) (after : List Entry) → rises before ≡ true → list_all (is_under e.0) before ≡ true → list_all (is_over e.0) after ≡ true → rises after ≡ true → rises (before ++ e ∷ after) ≡ true
rises_around [] e after rise under over rise' = and_from (list_all (is_over e.0) after) (rises after) over rise'
rises_around (x ∷ before) e after rise under over rise' =
    let u = and_parts (is_under e.0 x) (list_all (is_under e.0) before) under in
    let r = and_parts (list_all (is_over x.0) before) (rises before) rise in
    let less : x.0 < e.0 = ltb-true x.0 e.0 u.0 in
    and_from (list_all (is_over x.0) (before ++ e ∷ after)) (rises (before ++ e ∷ after))
    (all_both (is_over x.0) before (e ∷ after) r.0 (and_from (is_over x.0 e) (list_all (is_over x.0) after) u.0 (over_more x.0 e.0 after (omega arith) over)))
    (rises_around before e after r.1 u.1 over rise')

around_rises : (before : List Entry) (chosen : Entry) (after : List Entry) (n chunk block : ℕ) → length before ≡ n → (chosen.0 ≤ chunk) ⊎ (before ≡ []) → rises (before ++ chosen ∷ after) ≡ true
    → rises (with_block (before ++ chosen ∷ after) n chunk block) ≡ true
around_rises before chosen after n chunk block place upto rise =
    let back = and_parts (list_all (is_over chosen.0) after) (rises after) (rises_back before (chosen ∷ after) rise) in
    let e : Entry = (min chosen.0 chunk, block) in
    ap rises (block_at before chosen after n chunk block place)
    ∙ rises_around before e after (rises_front before (chosen ∷ after) rise) (front_under_border chunk before chosen (under_next before (chosen ∷ after) (omega arith) rise) upto)
    (over_more e.0 chosen.0 after (omega arith) back.0) back.1

pub block_rises : (xs : List Entry) (n chunk block : ℕ) → IsCut xs chunk n → rises xs ≡ true → rises (with_block xs n chunk block) ≡ true
block_rises xs n chunk block cut rise =
    ap (λ (l : List Entry). rises (with_block l n chunk block)) cut.split
    ∙ around_rises cut.before cut.chosen cut.after n chunk block cut.place cut.upto (ap rises (sym cut.split) ∙ rise)

pub child_rises : (xs : List Entry) (n chunk : ℕ) (grown : Grown) → IsCut xs chunk n → rises xs ≡ true → rises (with_child xs n chunk grown) ≡ true
child_rises xs n chunk (One block) cut rise = block_rises xs n chunk block cut rise
child_rises xs n chunk (Two left right) cut rise = with_rises (with_block xs n chunk left.1) right.0 right.1 (block_rises xs n chunk left.1 cut rise)

pub child_long : (xs : List Entry) (n chunk : ℕ) (grown : Grown) → (length xs ≤ length (with_child xs n chunk grown)) × (length (with_child xs n chunk grown) ≤ length xs + 1)
child_long xs n chunk (One block) =
    let same = length-set xs n (min (get_or xs n (0, 0)).0 chunk, block) in
    (omega (arith, same), omega (arith, same))
child_long xs n chunk (Two left right) =
    let same = length-set xs n (min (get_or xs n (0, 0)).0 chunk, left.1) in
    let long = with_long (with_block xs n chunk left.1) right.0 right.1 in
    (omega (arith, same, long.0), omega (arith, same, long.1))

-- ---- what the node stands for then

-- what stands round a child
record Round (Below : ℕ → ℕ → Option ℕ → List Entry → Type 0) (at : ℕ) (before : List Entry) (chosen : Entry) (after : List Entry) (high : Option ℕ) (entries : List Entry) : Type 0 where
  e1 : List Entry
  mine : List Entry
  e3 : List Entry
  together : entries ≡ e1 ++ (mine ++ e3)
  front : Fan Below at before (Some chosen.0) e1
  stands : Below chosen.1 chosen.0 (border after high) mine
  behind : Fan Below at after high e3

round : (Below : ℕ → ℕ → Option ℕ → List Entry → Type 0) (at : ℕ) (before : List Entry) (chosen : Entry) (after : List Entry) (high : Option ℕ) (entries : List Entry) → Fan Below at (before ++ chosen ∷ after) high entries → Round Below at before chosen after high entries
round Below at before chosen after high entries fan =
    let parts = fan_split Below at before (chosen ∷ after) high entries fan in
    let here : Fan Below at (chosen ∷ after) high parts.1 = parts.4 in
    record { e1 = parts.0; mine = here.1; e3 = here.2; together = parts.2 ∙ ap (λ (l : List Entry). parts.0 ++ l) here.3; front = parts.3; stands = here.4; behind = here.5 }

module _ (ok : ℕ → ℕ → Bool) (old new : Shelf) (lie : LieBelow new) (later : Later old new) (height low chunk value : ℕ) (high : Option ℕ) (before : List Entry) (chosen : Entry) (after : List Entry) where
  abbrev Old : ℕ → ℕ → Option ℕ → List Entry → Type 0
  Old = TreeAt ok old height 126

  abbrev New : ℕ → ℕ → Option ℕ → List Entry → Type 0
  New = TreeAt ok new height 126

  abbrev m : ℕ
  m = min chosen.0 chunk

  moved : (at : ℕ) (children : List Entry) (h : Option ℕ) (entries : List Entry) → at ≤ new.used → Fan Old at children h entries → Fan New new.used children h entries
  moved at children h entries up fan = fan_over Old New (λ a l h es t. tree_later ok old new later height 126 a l h es t) at new.used up children h entries fan

  child_lies : list_all (lies_in low high) (before ++ chosen ∷ after) ≡ true → lies_in low high (chunk, value) ≡ true → (block : ℕ) → lies_in low high (m, block) ≡ true
  child_lies all here block =
      let c = (and_parts (lies_in low high chosen) (list_all (lies_in low high) after) (all_back (lies_in low high) before (chosen ∷ after) all)).0 in
      let a : low ≤ chosen.0 = at_least low high chosen c in
      let b : low ≤ chunk = at_least low high (chunk, value) here in
      lies low high (m, block) (omega arith) (below_down m chosen.0 high (omega arith) (below low high chosen c))

  one_lie : list_all (lies_in low high) (before ++ chosen ∷ after) ≡ true → lies_in low high (chunk, value) ≡ true → (block : ℕ) → list_all (lies_in low high) (before ++ (m, block) ∷ after) ≡ true
  one_lie all here block =
      let behind = and_parts (lies_in low high chosen) (list_all (lies_in low high) after) (all_back (lies_in low high) before (chosen ∷ after) all) in
      let c : Entry = (m, block) in
      all_both (lies_in low high) before (c ∷ after) (all_front (lies_in low high) before (chosen ∷ after) all) (and_from (lies_in low high c) (list_all (lies_in low high) after) (child_lies all here block) behind.1)

  two_lie : list_all (lies_in low high) (before ++ chosen ∷ after) ≡ true → lies_in low high (chunk, value) ≡ true → (block : ℕ) (right : Entry) → m < right.0 → IsBelow right.0 (border after high)
      → list_all (lies_in low high) (before ++ (m, block) ∷ right ∷ after) ≡ true
  two_lie all here block right less under =
      let behind = and_parts (lies_in low high chosen) (list_all (lies_in low high) after) (all_back (lies_in low high) before (chosen ∷ after) all) in
      let c : Entry = (m, block) in
      let up : low ≤ m = at_least low high c (child_lies all here block) in
      all_both (lies_in low high) before (c ∷ right ∷ after) (all_front (lies_in low high) before (chosen ∷ after) all)
      (and_from (lies_in low high c) (list_all (lies_in low high) (right ∷ after)) (child_lies all here block)
      (and_from (lies_in low high right) (list_all (lies_in low high) after) (lies low high right (omega arith) (border_below right.0 low after high behind.1 under)) behind.1))

  -- the child's place in the fan
  one_fan : (block : ℕ) (e1 mine e3 : List Entry) → Fan New new.used before (Some m) e1 → New block m (border after high) mine → Fan New new.used after high e3
      → Fan New new.used (before ++ (m, block) ∷ after) high (e1 ++ (mine ++ e3))
  one_fan block e1 mine e3 front stands behind =
      let c : Entry = (m, block) in
      fan_join New new.used before (c ∷ after) high e1 (mine ++ e3) front (tree_below ok new lie height 126 block m (border after high) mine stands, mine, e3, refl, stands, behind)

  two_fan : (left right : Entry) (e1 mine first second e3 : List Entry) → m ≤ left.0 → mine ≡ first ++ second → Fan New new.used before (Some m) e1 → New left.1 left.0 (Some right.0) first → New right.1 right.0 (border after high) second
      → Fan New new.used after high e3 → Fan New new.used (before ++ (m, left.1) ∷ right ∷ after) high (e1 ++ (mine ++ e3))
  two_fan left right e1 mine first second e3 low_left split front one two behind =
      let c : Entry = (m, left.1) in
      fan_join New new.used before (c ∷ right ∷ after) high e1 (mine ++ e3) front (
        tree_below ok new lie height 126 left.1 left.0 (Some right.0) first one,
        first,
        second ++ e3,
        ap (λ (l : List Entry). l ++ e3) split ∙ append_assoc first second e3,
        tree_lower ok new height 126 left.1 left.0 m (Some right.0) first low_left one,
        (tree_below ok new lie height 126 right.1 right.0 (border after high) second two, second, e3, refl, two, behind),
      )

  -- the content with what came of the child, and what it stands for
  abbrev Whole : List Entry → List Entry → Type 0
  Whole content entries = (2 ≤ length content) × (list_all (lies_in low high) content ≡ true) × Fan New new.used content high entries

  grown_whole : (grown : Grown) (e1 mine e3 : List Entry) (n : ℕ) → length before ≡ n → 2 ≤ length (before ++ chosen ∷ after) → rises (before ++ chosen ∷ after) ≡ true → list_all (lies_in low high) (before ++ chosen ∷ after) ≡ true
      → lies_in low high (chunk, value) ≡ true → (chosen.0 ≤ chunk) ⊎ (before ≡ []) → Fan New new.used before (Some m) e1 → Stands ok new height 126 grown m (border after high) mine → Fan New new.used after high e3
      → Whole (with_child (before ++ chosen ∷ after) n chunk grown) (e1 ++ (mine ++ e3))
  grown_whole (One block) e1 mine e3 n place two rise all here upto front stands behind =
      let is : before ++ (m, block) ∷ after ≡ with_child (before ++ chosen ∷ after) n chunk (One block) = sym (block_at before chosen after n chunk block place) in
      subst (λ (l : List Entry). Whole l (e1 ++ (mine ++ e3))) is
      (omega (arith, two, length-append before (chosen ∷ after), length-append before ((m, block) ∷ after)), one_lie all here block, one_fan block e1 mine e3 front stands behind)
  grown_whole (Two left right) e1 mine e3 n place two rise all here upto front stands behind =
      let less : left.0 < right.0 = tree_borders ok new height 126 left.1 left.0 (Some right.0) stands.0 stands.4 in
      let down : m ≤ left.0 = stands.3 in
      let more : m < right.0 = omega arith in
      let under : IsBelow right.0 (border after high) = tree_borders ok new height 126 right.1 right.0 (border after high) stands.1 stands.5 in
      let before_under = front_under_border chunk before chosen (under_next before (chosen ∷ after) (omega arith) rise) upto in
      let after_rise : rises after ≡ true = (and_parts (list_all (is_over chosen.0) after) (rises after) (rises_back before (chosen ∷ after) rise)).1 in
      let is : before ++ (m, left.1) ∷ right ∷ after ≡ with_child (before ++ chosen ∷ after) n chunk (Two left right) =
      sym (ap (λ (l : List Entry). with_entry l right.0 right.1) (block_at before chosen after n chunk left.1 place)
      ∙ pair_at before m left.1 right.0 right.1 after before_under more (over_border right.0 after high after_rise under)) in
      subst (λ (l : List Entry). Whole l (e1 ++ (mine ++ e3))) is (
        omega (arith, two, length-append before (chosen ∷ after), length-append before ((m, left.1) ∷ right ∷ after)),
        two_lie all here left.1 right more under,
        two_fan left right e1 mine stands.0 stands.1 e3 down stands.2 front stands.4 stands.5 behind,
      )

  pub inner_holds : (grown : Grown) (n : ℕ) (entries : List Entry) → StaysWell ok → IsTrue (ok old.used value) → length before ≡ n → rises (before ++ chosen ∷ after) ≡ true → (chosen.0 ≤ chunk) ⊎ (before ≡ []) → list_all (is_over chunk) after ≡ true
      → lies_in low high (chunk, value) ≡ true → Puts chosen.1 chunk value old new grown → Holds ok old (suc height) false (before ++ chosen ∷ after) low high entries
      → Holds ok new (suc height) false (with_child (before ++ chosen ∷ after) n chunk grown) low high (with_entry entries chunk value)
  inner_holds grown n entries well okay place rise upto past here puts h =
      let r = round Old old.used before chosen after high entries h.3 in
      let lower : Old chosen.1 m (border after high) r.mine = tree_lower ok old height 126 chosen.1 chosen.0 m (border after high) r.mine (omega arith) r.stands in
      let in_child : lies_in m (border after high) (chunk, value) ≡ true = lies m (border after high) (chunk, value) (omega arith) (below_border chunk after high past (below low high (chunk, value) here)) in
      let stands = puts.each ok height 126 m (border after high) r.mine well okay in_child lower in
      let inside : (at low : ℕ) (high : Option ℕ) (es : List Entry) → Old at low high es → list_all (lies_in low high) es ≡ true = λ at low high es t. tree_inside ok old height 126 at low high es t in
      let after_in = (and_parts (lies_in low high chosen) (list_all (lies_in low high) after) (all_back (lies_in low high) before (chosen ∷ after) h.2)).1 in
      let under = front_under Old inside old.used chunk before r.e1 chosen (under_next before (chosen ∷ after) (omega arith) rise) upto r.front in
      let over = fan_above Old inside old.used low chunk high after r.e3 after_in past r.behind in
      let is : r.e1 ++ (with_entry r.mine chunk value ++ r.e3) ≡ with_entry entries chunk value =
      sym (ap (λ (l : List Entry). with_entry l chunk value) r.together ∙ with_within r.e1 r.mine r.e3 chunk value under over) in
      let whole = grown_whole grown r.e1 (with_entry r.mine chunk value) r.e3 n place h.1 rise h.2 here upto
      (front_fan New new.used chunk before r.e1 chosen upto (moved old.used before (Some chosen.0) r.e1 later.used r.front)) stands (moved old.used after high r.e3 later.used r.behind) in
      subst (λ (l : List Entry). Holds ok new (suc height) false (with_child (before ++ chosen ∷ after) n chunk grown) low high l) is (refl, whole.0, whole.1, whole.2)
