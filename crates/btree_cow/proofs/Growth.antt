-- Trees in a file to which nodes are added.
use Rattle.std.proofs.Common.{◌≡◌, ℕ, zero, suc, ◌<◌, ◌≤◌, Bool, true, false, List, [], ◌∷◌, ◌++◌, length, refl, sym, ap, ◌∙◌, ◌+◌, subst, arith, length-append, append_assoc}
use Rattle.std.specs.Prelude.{Option, Some, IsTrue}
use Rattle.std.specs.List.{list_all}
use Rattle.std.proofs.lemmas.Bool.{and_parts, and_from, ltb-true}
use Rattle.std.proofs.lemmas.List.{append-nil}
use Rattle.block_host.specs.declared.block.Block.{Block}
use Rattle.node_page.specs.Nodes.{Entry, rises}
use Rattle.btree_cow.specs.Shelf.{Shelf, AreNodes, Grows, Later, LieBelow}
use Rattle.btree_cow.specs.Trees.{lies_in, border, Fan, NodeAt, TreeAt}
use Rattle.btree_cow.specs.Changes.{StaysWell}
use Rattle.btree_cow.specs.Growing.{Holds, Stores, AddsNode, first_chunk}
use Rattle.btree_cow.specs.declared.grown.Grown.TheVariants.{One, Two}
use Rattle.btree_cow.proofs.Finds.{all_so, all_front, all_back}
use Rattle.btree_cow.proofs.Borders.{at_least, below, lies, widen, inside_same}
use Rattle.btree_cow.proofs.Fans.{fan_split}
use Rattle.btree_cow.proofs.Breaks.{one_at}
use Rattle.btree_cow.proofs.WithEntries.{is_over, is_under}

-- ---- later

-- nodes behind nodes
nodes_on : (file at : ℕ) (first second : List Block) → AreNodes file at first → AreNodes file (at + length first) second → AreNodes file at (first ++ second)
nodes_on file at [] second one two = subst (λ (n : ℕ). AreNodes file n second) (omega arith) two
nodes_on file at (b ∷ first) second one two =
    (one.0, one.1, one.2, one.3, nodes_on file (at + 1) first second one.4 (subst (λ (n : ℕ). AreNodes file n second) (omega arith) two))

pub grows_same : (s : Shelf) → Grows s s
grows_same s = record { more = []; behind = sym (append-nil s.content); nodes = tt }

grows_on : (a b c : Shelf) → b.file ≡ a.file → Grows a b → Grows b c → Grows a c
grows_on a b c same g h =
    let long : length b.content ≡ length a.content + length g.more = ap (λ (l : List Block). length l) g.behind ∙ length-append a.content g.more in
    let nodes : AreNodes a.file (length a.content + length g.more) h.more =
    subst (λ (f : ℕ). AreNodes f (length a.content + length g.more) h.more) same (subst (λ (n : ℕ). AreNodes b.file n h.more) long h.nodes) in
    record {
      more = g.more ++ h.more;
      behind = h.behind ∙ ap (λ (l : List Block). l ++ h.more) g.behind ∙ append_assoc a.content g.more h.more;
      nodes = nodes_on a.file (length a.content) g.more h.more g.nodes nodes;
    }

pub later_same : (s : Shelf) → Later s s
later_same s = record { lender = refl; file = refl; content = grows_same s; blocks = λ at stored h. h; seen = refl; tail = refl; used = omega arith; most = refl; max = refl }

pub later_on : (a b c : Shelf) → Later a b → Later b c → Later a c
later_on a b c l m =
    record {
      lender = m.lender ∙ l.lender;
      file = m.file ∙ l.file;
      content = grows_on a b c l.file l.content m.content;
      blocks = λ at stored h. m.blocks at stored (l.blocks at stored h);
      seen = m.seen ∙ l.seen;
      tail = m.tail ∙ l.tail;
      used = omega (arith, l.used, m.used);
      most = m.most ∙ l.most;
      max = m.max ∙ l.max;
    }

pub node_later : (old new : Shelf) (at : ℕ) (leaf : Bool) (es : List Entry) → Later old new → NodeAt old at leaf es → NodeAt new at leaf es
node_later old new at leaf es later node = (node.0, later.blocks at (record { kind = 2; page = node.0 }) node.1, node.2)

-- what children stand for in one file they stand for in another, below a higher node
pub fan_over : (A B : ℕ → ℕ → Option ℕ → List Entry → Type 0) → ((at low : ℕ) (high : Option ℕ) (es : List Entry) → A at low high es → B at low high es)
    → (at at' : ℕ) → at ≤ at' → (children : List Entry) (high : Option ℕ) (entries : List Entry) → Fan A at children high entries → Fan B at' children high entries
fan_over A B so at at' up [] high entries fan = fan
fan_over A B so at at' up (c ∷ children) high entries fan =
    (omega (arith, fan.0), fan.1, fan.2, fan.3, so c.1 c.0 (border children high) fan.1 fan.4, fan_over A B so at at' up children high fan.2 fan.5)

pub tree_later : (ok : ℕ → ℕ → Bool) (old new : Shelf) → Later old new → (height least at low : ℕ) (high : Option ℕ) (entries : List Entry) → TreeAt ok old height least at low high entries → TreeAt ok new height least at low high entries
tree_later ok old new later zero least at low high entries tree = (node_later old new at true entries later tree.0, tree.1, tree.2, tree.3)
tree_later ok old new later (suc height) least at low high entries tree = (
  tree.0,
  node_later old new at false tree.0 later tree.1,
  tree.2,
  tree.3,
  tree.4,
  fan_over (TreeAt ok old height 126) (TreeAt ok new height 126) (λ a l h es t. tree_later ok old new later height 126 a l h es t) at at (omega arith) tree.0 high entries tree.5,
)

-- from a lower border on
pub tree_lower : (ok : ℕ → ℕ → Bool) (s : Shelf) (height least at low low' : ℕ) (high : Option ℕ) (entries : List Entry) → low' ≤ low → TreeAt ok s height least at low high entries → TreeAt ok s height least at low' high entries
tree_lower ok s zero least at low low' high entries down tree = (tree.0, tree.1, widen low low' high high down (inside_same high) entries tree.2, tree.3)
tree_lower ok s (suc height) least at low low' high entries down tree = (tree.0, tree.1, tree.2, tree.3, widen low low' high high down (inside_same high) tree.0 tree.4, tree.5)

-- the node of a tree lies below the next block
pub tree_below : (ok : ℕ → ℕ → Bool) (s : Shelf) → LieBelow s → (height least at low : ℕ) (high : Option ℕ) (entries : List Entry) → TreeAt ok s height least at low high entries → at < s.used
tree_below ok s lie zero least at low high entries tree = lie at (record { kind = 2; page = tree.0.0 }) tree.0.1
tree_below ok s lie (suc height) least at low high entries tree = lie at (record { kind = 2; page = tree.1.0 }) tree.1.1

-- ---- between a tree and the content of its node

pub holds_later : (ok : ℕ → ℕ → Bool) (old new : Shelf) (height : ℕ) (leaf : Bool) (content : List Entry) (low : ℕ) (high : Option ℕ) (entries : List Entry) → StaysWell ok → Later old new
    → Holds ok old height leaf content low high entries → Holds ok new height leaf content low high entries
holds_later ok old new zero leaf content low high entries well later h =
    (h.0, h.1, h.2, all_so (λ (e : Entry). ok old.used e.1) (λ (e : Entry). ok new.used e.1) (λ e o. well old.used new.used e.1 later.used o) content h.3)
holds_later ok old new (suc height) leaf content low high entries well later h =
    (h.0, h.1, h.2, fan_over (TreeAt ok old height 126) (TreeAt ok new height 126) (λ a l h es t. tree_later ok old new later height 126 a l h es t) old.used new.used later.used content high entries h.3)

pub holds_of : (ok : ℕ → ℕ → Bool) (s : Shelf) (height least at : ℕ) (leaf : Bool) (content : List Entry) (low : ℕ) (high : Option ℕ) (entries : List Entry) → StaysWell ok → LieBelow s → NodeAt s at leaf content
    → TreeAt ok s height least at low high entries → Holds ok s height leaf content low high entries × (least ≤ length content)
holds_of ok s zero least at leaf content low high entries well lie node tree =
    let same = one_at s at leaf true content entries node tree.0 in
    let there : at < s.used = tree_below ok s lie zero least at low high entries tree in (
      (
        same.0,
        sym same.1,
        subst (λ (l : List Entry). IsTrue (list_all (lies_in low high) l)) (sym same.1) tree.2,
        subst (λ (l : List Entry). IsTrue (list_all (λ (e : Entry). ok s.used e.1) l)) (sym same.1)
            (all_so (λ (e : Entry). ok at e.1) (λ (e : Entry). ok s.used e.1) (λ e o. well at s.used e.1 (omega arith) o) entries tree.3),
      ),
      subst (λ (l : List Entry). least ≤ length l) (sym same.1) tree.1,
    )
holds_of ok s (suc height) least at leaf content low high entries well lie node tree =
    let same = one_at s at leaf false content tree.0 node tree.1 in
    let there : at < s.used = tree_below ok s lie (suc height) least at low high entries tree in (
      (
        same.0,
        subst (λ (l : List Entry). 2 ≤ length l) (sym same.1) tree.3,
        subst (λ (l : List Entry). IsTrue (list_all (lies_in low high) l)) (sym same.1) tree.4,
        subst (λ (l : List Entry). Fan (TreeAt ok s height 126) s.used l high entries) (sym same.1)
            (fan_over (TreeAt ok s height 126) (TreeAt ok s height 126) (λ a l h es t. t) at s.used (omega arith) tree.0 high entries tree.5),
      ),
      subst (λ (l : List Entry). least ≤ length l) (sym same.1) tree.2,
    )

pub tree_of : (ok : ℕ → ℕ → Bool) (old new : Shelf) (height least at : ℕ) (leaf : Bool) (content : List Entry) (low : ℕ) (high : Option ℕ) (entries : List Entry) → Later old new → at ≡ old.used → NodeAt new at leaf content
    → least ≤ length content → Holds ok old height leaf content low high entries → TreeAt ok new height least at low high entries
tree_of ok old new zero least at leaf content low high entries later end node enough h =
    let leaf_node : NodeAt new at true content = subst (λ (b : Bool). NodeAt new at b content) h.0 node in
    let oks : IsTrue (list_all (λ (e : Entry). ok at e.1) content) = subst (λ (n : ℕ). IsTrue (list_all (λ (e : Entry). ok n e.1) content)) (sym end) h.3 in
    subst (λ (l : List Entry). TreeAt ok new zero least at low high l) (sym h.1) (leaf_node, enough, h.2, oks)
tree_of ok old new (suc height) least at leaf content low high entries later end node enough h =
    let inner : NodeAt new at false content = subst (λ (b : Bool). NodeAt new at b content) h.0 node in
    (content, inner, enough, h.1, h.2, fan_over (TreeAt ok old height 126) (TreeAt ok new height 126) (λ a l h es t. tree_later ok old new later height 126 a l h es t) old.used at (omega arith) content high entries h.3)

-- ---- a node that is stored, as one or as two

pub added_tree : (ok : ℕ → ℕ → Bool) (old new : Shelf) (height least at : ℕ) (leaf : Bool) (content : List Entry) (low : ℕ) (high : Option ℕ) (entries : List Entry) → AddsNode leaf content old new at
    → least ≤ length content → Holds ok old height leaf content low high entries → TreeAt ok new height least at low high entries
added_tree ok old new height least at leaf content low high entries added enough h =
    tree_of ok old new height least at leaf content low high entries added.adds.later added.adds.at_end (added.page, added.adds.there, added.node) enough h

pub stores_one : (leaf : Bool) (content : List Entry) (old new : Shelf) (at : ℕ) → AddsNode leaf content old new at → Stores leaf content old new (One at)
stores_one leaf content old new at added =
    record { each = λ ok height least low high entries well enough h. added_tree ok old new height least at leaf content low high entries added enough h }

-- all chunks of a rising list are at or above its first one
lies_from_first : (low : ℕ) (high : Option ℕ) (xs : List Entry) → rises xs ≡ true → list_all (lies_in low high) xs ≡ true → list_all (lies_in (first_chunk xs) high) xs ≡ true
lies_from_first low high [] rise all = refl
lies_from_first low high (x ∷ xs) rise all =
    let parts = and_parts (lies_in low high x) (list_all (lies_in low high) xs) all in
    let over = (and_parts (list_all (is_over x.0) xs) (rises xs) rise).0 in
    and_from (lies_in x.0 high x) (list_all (lies_in x.0 high) xs) (lies x.0 high x (omega arith) (below low high x parts.0)) (others xs over parts.1)
  where
    others : (ys : List Entry) → list_all (is_over x.0) ys ≡ true → list_all (lies_in low high) ys ≡ true → list_all (lies_in x.0 high) ys ≡ true
    others [] over all = refl
    others (y ∷ ys) over all =
        let o = and_parts (is_over x.0 y) (list_all (is_over x.0) ys) over in
        let a = and_parts (lies_in low high y) (list_all (lies_in low high) ys) all in
        let more : x.0 < y.0 = ltb-true x.0 y.0 o.0 in
        and_from (lies_in x.0 high y) (list_all (lies_in x.0 high) ys) (lies x.0 high y (omega arith) (below low high y a.0)) (others ys o.1 a.1)

-- chunks below another one
pub lies_under : (low n : ℕ) (high : Option ℕ) (xs : List Entry) → list_all (is_under n) xs ≡ true → list_all (lies_in low high) xs ≡ true → list_all (lies_in low (Some n)) xs ≡ true
lies_under low n high [] under all = refl
lies_under low n high (x ∷ xs) under all =
    let u = and_parts (is_under n x) (list_all (is_under n) xs) under in
    let a = and_parts (lies_in low high x) (list_all (lies_in low high) xs) all in
    and_from (lies_in low (Some n) x) (list_all (lies_in low (Some n)) xs) (lies low (Some n) x (at_least low high x a.0) (ltb-true x.0 n u.0)) (lies_under low n high xs u.1 a.1)

pub rises_front : (xs ys : List Entry) → rises (xs ++ ys) ≡ true → rises xs ≡ true
rises_front [] ys rise = refl
rises_front (x ∷ xs) ys rise =
    let parts = and_parts (list_all (is_over x.0) (xs ++ ys)) (rises (xs ++ ys)) rise in
    and_from (list_all (is_over x.0) xs) (rises xs) (all_front (is_over x.0) xs ys parts.0) (rises_front xs ys parts.1)

pub rises_back : (xs ys : List Entry) → rises (xs ++ ys) ≡ true → rises ys ≡ true
rises_back [] ys rise = rise
rises_back (x ∷ xs) ys rise = rises_back xs ys (and_parts (list_all (is_over x.0) (xs ++ ys)) (rises (xs ++ ys)) rise).1

pub under_next : (xs ys : List Entry) → 1 ≤ length ys → rises (xs ++ ys) ≡ true → list_all (is_under (first_chunk ys)) xs ≡ true
under_next xs [] some rise = absurd (omega arith)
under_next [] (y ∷ ys) some rise = refl
under_next (x ∷ xs) (y ∷ ys) some rise =
    let parts = and_parts (list_all (is_over x.0) (xs ++ y ∷ ys)) (rises (xs ++ y ∷ ys)) rise in
    and_from (is_under y.0 x) (list_all (is_under y.0) xs)
    (and_parts (is_over x.0 y) (list_all (is_over x.0) ys) (all_back (is_over x.0) xs (y ∷ ys) parts.0)).0
    (under_next xs (y ∷ ys) some parts.1)

border_first : (ys : List Entry) (high : Option ℕ) → 1 ≤ length ys → border ys high ≡ Some (first_chunk ys)
border_first [] high some = absurd (omega arith)
border_first (y ∷ ys) high some = refl

low_first : (low : ℕ) (high : Option ℕ) (xs : List Entry) → 1 ≤ length xs → list_all (lies_in low high) xs ≡ true → low ≤ first_chunk xs
low_first low high [] some all = absurd (omega arith)
low_first low high (x ∷ xs) some all = at_least low high x (and_parts (lies_in low high x) (list_all (lies_in low high) xs) all).0

-- the halves of a node's content
record Halves (ok : ℕ → ℕ → Bool) (s : Shelf) (height : ℕ) (leaf : Bool) (front back : List Entry) (low : ℕ) (high : Option ℕ) (entries : List Entry) : Type 0 where
  first : List Entry
  second : List Entry
  split : entries ≡ first ++ second
  low_first : low ≤ first_chunk front
  left : Holds ok s height leaf front (first_chunk front) (Some (first_chunk back)) first
  right : Holds ok s height leaf back (first_chunk back) high second

halves : (ok : ℕ → ℕ → Bool) (s : Shelf) (height : ℕ) (leaf : Bool) (front back : List Entry) (low : ℕ) (high : Option ℕ) (entries : List Entry) → 2 ≤ length front → 2 ≤ length back → rises (front ++ back) ≡ true
    → Holds ok s height leaf (front ++ back) low high entries → Halves ok s height leaf front back low high entries
halves ok s zero leaf front back low high entries some some' rise h =
    let a = all_front (lies_in low high) front back h.2 in
    let b = all_back (lies_in low high) front back h.2 in
    record {
      first = front;
      second = back;
      split = h.1;
      low_first = low_first low high front (omega arith) a;
      left = (h.0, refl, lies_from_first low (Some (first_chunk back)) front (rises_front front back rise) (lies_under low (first_chunk back) high front (under_next front back (omega arith) rise) a), all_front (λ (e : Entry). ok s.used e.1) front back h.3);
      right = (h.0, refl, lies_from_first low high back (rises_back front back rise) b, all_back (λ (e : Entry). ok s.used e.1) front back h.3);
    }
halves ok s (suc height) leaf front back low high entries some some' rise h =
    let a = all_front (lies_in low high) front back h.2 in
    let b = all_back (lies_in low high) front back h.2 in
    let parts = fan_split (TreeAt ok s height 126) s.used front back high entries h.3 in
    record {
      first = parts.0;
      second = parts.1;
      split = parts.2;
      low_first = low_first low high front (omega arith) a;
      left = (
        h.0,
        some,
        lies_from_first low (Some (first_chunk back)) front (rises_front front back rise) (lies_under low (first_chunk back) high front (under_next front back (omega arith) rise) a),
        subst (λ (o : Option ℕ). Fan (TreeAt ok s height 126) s.used front o parts.0) (border_first back high (omega arith)) parts.3,
      );
      right = (h.0, some', lies_from_first low high back (rises_back front back rise) b, parts.4);
    }

pub stores_two : (leaf : Bool) (front back : List Entry) (old mid new : Shelf) (left right : ℕ) → 126 ≤ length front → 126 ≤ length back → rises (front ++ back) ≡ true → AddsNode leaf front old mid left → AddsNode leaf back mid new right
    → Stores leaf (front ++ back) old new (Two (first_chunk front, left) (first_chunk back, right))
stores_two leaf front back old mid new left right many many' rise one two =
    record {
      each = λ ok height least low high entries well enough h.
          let hs = halves ok old height leaf front back low high entries (omega arith) (omega arith) rise h in (
            hs.first,
            hs.second,
            hs.split,
            hs.low_first,
            tree_later ok mid new two.adds.later height 126 left (first_chunk front) (Some (first_chunk back)) hs.first
                (added_tree ok old mid height 126 left leaf front (first_chunk front) (Some (first_chunk back)) hs.first one many hs.left),
            added_tree ok mid new height 126 right leaf back (first_chunk back) high hs.second two many'
                (holds_later ok old mid height leaf back (first_chunk back) high hs.second well one.adds.later hs.right),
          );
    }
