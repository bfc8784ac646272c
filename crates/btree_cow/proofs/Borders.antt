-- Chunks in borders.
use Rattle.std.proofs.Common.{◌≡◌, ℕ, ◌<◌, ◌≤◌, ◌+◌, true, List, [], ◌∷◌, ◌++◌, refl, arith}
use Rattle.std.specs.Prelude.{Option, Some, None, nat_lt, nat_le}
use Rattle.std.specs.List.{list_all}
use Rattle.std.proofs.lemmas.Bool.{and_parts, and_from, ltb-true, lt-ltb, leb-true, le-leb}
use Rattle.node_page.specs.Nodes.{Entry}
use Rattle.btree_cow.specs.Trees.{lies_in, border}
use Rattle.btree_cow.proofs.Finds.{all_so}

-- below a border, where there is one
abbrev pub IsBelow : ℕ → Option ℕ → Type 0
IsBelow n None = Unit {0}
IsBelow n (Some h) = n < h

-- a border that isn't above another
abbrev pub IsInside : Option ℕ → Option ℕ → Type 0
IsInside None None = Unit {0}
IsInside None (Some h) = ⊥
IsInside (Some b) None = Unit {0}
IsInside (Some b) (Some h) = b ≤ h

pub at_least : (low : ℕ) (high : Option ℕ) (e : Entry) → lies_in low high e ≡ true → low ≤ e.0
at_least low None e h = leb-true low e.0 (and_parts _ _ h).0
at_least low (Some b) e h = leb-true low e.0 (and_parts _ _ h).0

pub below : (low : ℕ) (high : Option ℕ) (e : Entry) → lies_in low high e ≡ true → IsBelow e.0 high
below low None e h = tt
below low (Some b) e h = ltb-true e.0 b (and_parts (nat_le low e.0) (nat_lt e.0 b) h).1

pub lies : (low : ℕ) (high : Option ℕ) (e : Entry) → low ≤ e.0 → IsBelow e.0 high → lies_in low high e ≡ true
lies low None e h k = and_from (nat_le low e.0) true (le-leb low e.0 h) refl
lies low (Some b) e h k = and_from (nat_le low e.0) (nat_lt e.0 b) (le-leb low e.0 h) (lt-ltb e.0 b k)

below_inside : (n : ℕ) (inner high : Option ℕ) → IsBelow n inner → IsInside inner high → IsBelow n high
below_inside n None None h k = tt
below_inside n None (Some b) h k = absurd k
below_inside n (Some a) None h k = tt
below_inside n (Some a) (Some b) h k = omega arith

pub widen : (low' low : ℕ) (inner high : Option ℕ) → low ≤ low' → IsInside inner high → (es : List Entry) → list_all (lies_in low' inner) es ≡ true → list_all (lies_in low high) es ≡ true
widen low' low inner high h k es all =
    all_so (lies_in low' inner) (lies_in low high)
    (λ e l. let above : low' ≤ e.0 = at_least low' inner e l in lies low high e (omega arith) (below_inside e.0 inner high (below low' inner e l) k))
    es all

pub inside_same : (high : Option ℕ) → IsInside high high
inside_same None = tt
inside_same (Some h) = omega arith

below_some : (n : ℕ) (high : Option ℕ) → IsBelow n high → IsInside (Some n) high
below_some n None h = tt
below_some n (Some b) h = omega arith

pub border_inside : (low : ℕ) (high : Option ℕ) (children : List Entry) → list_all (lies_in low high) children ≡ true → IsInside (border children high) high
border_inside low high [] all = inside_same high
border_inside low high (c ∷ later) all = below_some c.0 high (below low high c (and_parts _ _ all).0)

pub border_append : (xs ys : List Entry) (high : Option ℕ) → border (xs ++ ys) high ≡ border xs (border ys high)
border_append [] ys high = refl
border_append (x ∷ xs) ys high = refl

-- entries above a chunk
pub raise : (low q : ℕ) (high : Option ℕ) (es : List Entry) → list_all (lies_in low high) es ≡ true → list_all (λ (e : Entry). nat_lt q e.0) es ≡ true → list_all (lies_in (q + 1) high) es ≡ true
raise low q high [] all h = refl
raise low q high (e ∷ es) all h =
    let a = and_parts (lies_in low high e) (list_all (lies_in low high) es) all in
    let b = and_parts (nat_lt q e.0) (list_all (λ (e : Entry). nat_lt q e.0) es) h in
    let more : q < e.0 = ltb-true q e.0 b.0 in
    and_from (lies_in (q + 1) high e) (list_all (lies_in (q + 1) high) es) (lies (q + 1) high e (omega arith) (below low high e a.0)) (raise low q high es a.1 b.1)
