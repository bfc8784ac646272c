-- The contents of nodes, and of neighbours together.
use Rattle.std.proofs.Common.{◌≡◌, ℕ, zero, suc, ◌<◌, ◌≤◌, Bool, true, List, [], ◌∷◌, ◌++◌, length, refl, sym, ap, ◌∙◌, subst, arith, append_assoc, length-append}
use Rattle.std.specs.Prelude.{Option, Some, None}
use Rattle.std.specs.List.{list_all}
use Rattle.std.proofs.lemmas.Bool.{and_parts, and_from, lt-ltb}
use Rattle.node_page.specs.Nodes.{Entry, rises}
use Rattle.btree_cow.specs.Shelf.{Shelf, Later, LieBelow}
use Rattle.btree_cow.specs.Trees.{lies_in, border, Fan, NodeAt, TreeAt, Tree}
use Rattle.btree_cow.specs.Changes.{StaysWell}
use Rattle.btree_cow.specs.Growing.{Holds}
use Rattle.btree_cow.specs.Shrinking.{Content}
use Rattle.btree_cow.proofs.Finds.{all_so, all_both}
use Rattle.btree_cow.proofs.Borders.{IsInside, at_least, below, widen, inside_same}
use Rattle.btree_cow.proofs.WithEntries.{is_over}
use Rattle.btree_cow.proofs.Growth.{holds_of, tree_later, fan_over}

-- ---- contents

pub content_holds : (ok : ℕ → ℕ → Bool) (s : Shelf) (height : ℕ) (leaf : Bool) (content : List Entry) (low : ℕ) (high : Option ℕ) (entries : List Entry) → 2 ≤ length content → Content ok s height leaf content low high entries
    → Holds ok s height leaf content low high entries
content_holds ok s zero leaf content low high entries two c = c
content_holds ok s (suc height) leaf content low high entries two c = (c.0, two, c.2, c.3)

pub holds_content : (ok : ℕ → ℕ → Bool) (s : Shelf) (height : ℕ) (leaf : Bool) (content : List Entry) (low : ℕ) (high : Option ℕ) (entries : List Entry) → Holds ok s height leaf content low high entries
    → Content ok s height leaf content low high entries
holds_content ok s zero leaf content low high entries h = h
holds_content ok s (suc height) leaf content low high entries h = (h.0, omega (arith, h.1), h.2, h.3)

pub content_of : (ok : ℕ → ℕ → Bool) (s : Shelf) (height least at : ℕ) (leaf : Bool) (content : List Entry) (low : ℕ) (high : Option ℕ) (entries : List Entry) → StaysWell ok → LieBelow s → NodeAt s at leaf content
    → TreeAt ok s height least at low high entries → Content ok s height leaf content low high entries × (least ≤ length content)
content_of ok s height least at leaf content low high entries well lie node tree =
    let h = holds_of ok s height least at leaf content low high entries well lie node tree in
    (holds_content ok s height leaf content low high entries h.0, h.1)

pub content_later : (ok : ℕ → ℕ → Bool) (old new : Shelf) (height : ℕ) (leaf : Bool) (content : List Entry) (low : ℕ) (high : Option ℕ) (entries : List Entry) → StaysWell ok → Later old new
    → Content ok old height leaf content low high entries → Content ok new height leaf content low high entries
content_later ok old new zero leaf content low high entries well later c =
    (c.0, c.1, c.2, all_so (λ (e : Entry). ok old.used e.1) (λ (e : Entry). ok new.used e.1) (λ e o. well old.used new.used e.1 later.used o) content c.3)
content_later ok old new (suc height) leaf content low high entries well later c =
    (c.0, c.1, c.2, fan_over (TreeAt ok old height 126) (TreeAt ok new height 126) (λ a l h es t. tree_later ok old new later height 126 a l h es t) old.used new.used later.used content high entries c.3)

-- nodes of one height are of one kind
pub one_height : (ok : ℕ → ℕ → Bool) (s : Shelf) (height : ℕ) (leaf leaf' : Bool) (content content' : List Entry) (low low' : ℕ) (high high' : Option ℕ) (entries entries' : List Entry)
    → Content ok s height leaf content low high entries → Content ok s height leaf' content' low' high' entries' → leaf ≡ leaf'
one_height ok s zero leaf leaf' content content' low low' high high' entries entries' c d = c.0 ∙ sym d.0
one_height ok s (suc height) leaf leaf' content content' low low' high high' entries entries' c d = c.0 ∙ sym d.0

pub content_lies : (ok : ℕ → ℕ → Bool) (s : Shelf) (height : ℕ) (leaf : Bool) (content : List Entry) (low : ℕ) (high : Option ℕ) (entries : List Entry) → Content ok s height leaf content low high entries
    → list_all (lies_in low high) content ≡ true
content_lies ok s zero leaf content low high entries c = c.2
content_lies ok s (suc height) leaf content low high entries c = c.2

-- ---- wider borders, and fewer entries asked

fan_higher : (Below : ℕ → ℕ → Option ℕ → List Entry → Type 0) → ((at low : ℕ) (high high' : Option ℕ) (es : List Entry) → IsInside high high' → Below at low high es → Below at low high' es)
    → (at : ℕ) (children : List Entry) (high high' : Option ℕ) (entries : List Entry) → IsInside high high' → Fan Below at children high entries → Fan Below at children high' entries
fan_higher Below up at [] high high' entries inside fan = fan
fan_higher Below up at (c ∷ []) high high' entries inside fan = (fan.0, fan.1, fan.2, fan.3, up c.1 c.0 high high' fan.1 inside fan.4, fan.5)
fan_higher Below up at (c ∷ d ∷ children) high high' entries inside fan = (fan.0, fan.1, fan.2, fan.3, fan.4, fan_higher Below up at (d ∷ children) high high' fan.2 inside fan.5)

pub tree_higher : (ok : ℕ → ℕ → Bool) (s : Shelf) (height least at low : ℕ) (high high' : Option ℕ) (entries : List Entry) → IsInside high high' → TreeAt ok s height least at low high entries → TreeAt ok s height least at low high' entries
tree_higher ok s zero least at low high high' entries inside tree = (tree.0, tree.1, widen low low high high' (omega arith) inside entries tree.2, tree.3)
tree_higher ok s (suc height) least at low high high' entries inside tree = (
  tree.0,
  tree.1,
  tree.2,
  tree.3,
  widen low low high high' (omega arith) inside tree.0 tree.4,
  fan_higher (TreeAt ok s height 126) (λ a l h h' es i t. tree_higher ok s height 126 a l h h' es i t) at tree.0 high high' entries inside tree.5,
)

pub tree_least : (ok : ℕ → ℕ → Bool) (s : Shelf) (height least least' at low : ℕ) (high : Option ℕ) (entries : List Entry) → least' ≤ least → TreeAt ok s height least at low high entries → TreeAt ok s height least' at low high entries
tree_least ok s zero least least' at low high entries down tree = (tree.0, omega (arith, tree.1), tree.2, tree.3)
tree_least ok s (suc height) least least' at low high entries down tree = (tree.0, tree.1, omega (arith, tree.2), tree.3, tree.4, tree.5)

-- every value is well for some test
abbrev pub any_value : ℕ → ℕ → Bool
any_value at value = true

pub any_well : StaysWell any_value
any_well at later value le h = refl

all_any : (at : ℕ) (es : List Entry) → list_all (λ (e : Entry). any_value at e.1) es ≡ true
all_any at [] = refl
all_any at (e ∷ es) = all_any at es

pub tree_any : (ok : ℕ → ℕ → Bool) (s : Shelf) (height least at low : ℕ) (high : Option ℕ) (entries : List Entry) → TreeAt ok s height least at low high entries → TreeAt any_value s height least at low high entries
tree_any ok s zero least at low high entries tree = (tree.0, tree.1, tree.2, all_any at entries)
tree_any ok s (suc height) least at low high entries tree =
    (tree.0, tree.1, tree.2, tree.3, tree.4, fan_over (TreeAt ok s height 126) (TreeAt any_value s height 126) (λ a l h es t. tree_any ok s height 126 a l h es t) at at (omega arith) tree.0 high entries tree.5)

pub root_any : (ok : ℕ → ℕ → Bool) (s : Shelf) (root : Option ℕ) (entries : List Entry) → Tree ok s root entries → Tree any_value s root entries
root_any ok s None entries tree = tree
root_any ok s (Some at) entries tree = (tree.0, tree_any ok s tree.0 1 at 0 None entries tree.1)

-- ---- two neighbours together

-- children one behind another, and then others
pub fans_join : (Below : ℕ → ℕ → Option ℕ → List Entry → Type 0) (at : ℕ) (xs ys : List Entry) (high : Option ℕ) (e1 e2 : List Entry) → Fan Below at xs (border ys high) e1 → Fan Below at ys high e2 → Fan Below at (xs ++ ys) high (e1 ++ e2)
fans_join Below at [] ys high e1 e2 none fan = subst (λ (l : List Entry). Fan Below at ys high (l ++ e2)) (sym none) fan
fans_join Below at (x ∷ []) ys high e1 e2 front fan =
    (front.0, front.1, front.2 ++ e2, ap (λ (l : List Entry). l ++ e2) front.3 ∙ append_assoc front.1 front.2 e2, front.4, fans_join Below at [] ys high front.2 e2 front.5 fan)
fans_join Below at (x ∷ x' ∷ xs) ys high e1 e2 front fan =
    (front.0, front.1, front.2 ++ e2, ap (λ (l : List Entry). l ++ e2) front.3 ∙ append_assoc front.1 front.2 e2, front.4, fans_join Below at (x' ∷ xs) ys high front.2 e2 front.5 fan)

-- the first chunk of a list that lies above a border
border_above : (n : ℕ) (high : Option ℕ) (ys : List Entry) → list_all (lies_in n high) ys ≡ true → IsInside (Some n) high → IsInside (Some n) (border ys high)
border_above n high [] all inside = inside
border_above n high (y ∷ ys) all inside = at_least n high y (and_parts (lies_in n high y) (list_all (lies_in n high) ys) all).0

pub contents_join : (ok : ℕ → ℕ → Bool) (s : Shelf) (height : ℕ) (leaf : Bool) (xs ys : List Entry) (low n : ℕ) (high : Option ℕ) (e1 e2 : List Entry) → low ≤ n → IsInside (Some n) high
    → Content ok s height leaf xs low (Some n) e1 → Content ok s height leaf ys n high e2 → Content ok s height leaf (xs ++ ys) low high (e1 ++ e2)
contents_join ok s zero leaf xs ys low n high e1 e2 less inside c d = (
  c.0,
  ap (λ (l : List Entry). l ++ e2) c.1 ∙ ap (λ (l : List Entry). xs ++ l) d.1,
  all_both (lies_in low high) xs ys (widen low low (Some n) high (omega arith) inside xs c.2) (widen n low high high less (inside_same high) ys d.2),
  all_both (λ (e : Entry). ok s.used e.1) xs ys c.3 d.3,
)
contents_join ok s (suc height) leaf xs ys low n high e1 e2 less inside c d = (
  c.0,
  omega (arith, c.1, length-append xs ys),
  all_both (lies_in low high) xs ys (widen low low (Some n) high (omega arith) inside xs c.2) (widen n low high high less (inside_same high) ys d.2),
  fans_join (TreeAt ok s height 126) s.used xs ys high e1 e2
      (fan_higher (TreeAt ok s height 126) (λ a l h h' es i t. tree_higher ok s height 126 a l h h' es i t) s.used xs (Some n) (border ys high) e1 (border_above n high ys d.2 inside) c.3) d.3,
)

pub rises_join : (xs ys : List Entry) (low n : ℕ) (high : Option ℕ) → rises xs ≡ true → rises ys ≡ true → list_all (lies_in low (Some n)) xs ≡ true → list_all (lies_in n high) ys ≡ true → rises (xs ++ ys) ≡ true
rises_join [] ys low n high rise rise' all all' = rise'
rises_join (x ∷ xs) ys low n high rise rise' all all' =
    let r = and_parts (list_all (is_over x.0) xs) (rises xs) rise in
    let a = and_parts (lies_in low (Some n) x) (list_all (lies_in low (Some n)) xs) all in
    let under : x.0 < n = below low (Some n) x a.0 in
    and_from (list_all (is_over x.0) (xs ++ ys)) (rises (xs ++ ys))
    (all_both (is_over x.0) xs ys r.0 (all_so (lies_in n high) (is_over x.0) (λ e l. let above : n ≤ e.0 = at_least n high e l in lt-ltb x.0 e.0 (omega arith)) ys all'))
    (rises_join xs ys low n high r.1 rise' a.1 all')
