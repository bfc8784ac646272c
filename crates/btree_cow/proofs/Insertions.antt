-- The steps of an insert, as the code has them.
use Rattle.std.proofs.Common.{◌≡◌, ℕ, suc, ◌<◌, ◌≤◌, Bool, true, false, List, [], ◌∷◌, length, refl, sym, ap, ◌∙◌, subst, arith, append-nil}
use Rattle.std.specs.Prelude.{Option, Some, None, IsTrue, Result, Ok, Err, IfOk}
use Rattle.std.specs.List.{list_all}
use Rattle.std.proofs.lemmas.Bool.{and_from}
use Rattle.forest_model.specs.declared.refusal.Refusal.{Refusal}
use Rattle.node_page.specs.Nodes.{Entry, rises}
use Rattle.btree_cow.specs.Shelf.{Shelf, Later, LieBelow}
use Rattle.btree_cow.specs.Trees.{lies_in, NodeAt, Tree}
use Rattle.btree_cow.specs.Changes.{with_entry, StaysWell}
use Rattle.btree_cow.specs.Growing.{AddsNode, Holds, IsApart, IsChild, IsRead, Puts, Stands, Stores, with_child}
use Rattle.btree_cow.specs.declared.grown.Grown.{Grown}
use Rattle.btree_cow.specs.declared.grown.Grown.TheVariants.{Two}
use Rattle.btree_cow.proofs.Borders.{lies}
use Rattle.btree_cow.proofs.WithEntries.{with_rises}
use Rattle.btree_cow.proofs.Growth.{added_tree, tree_below}
use Rattle.btree_cow.proofs.ChildPlaces.{child_long, child_rises}
use Rattle.btree_cow.proofs.Additions.{puts_leaf, puts_inner}

on_ok : {A E : Type 0} (r : Result A E) (P Q : A → Type 0) → ((a : A) → P a → Q a) → IfOk r P → IfOk r Q
on_ok (Ok a) P Q so h = so a h
on_ok (Err e) P Q so h = h

-- ---- at a leaf

pub leaf_rises : (slice items content : List Entry) (chunk value : ℕ) → slice ≡ items → items ≡ with_entry content chunk value → rises content ≡ true → rises slice ≡ true
leaf_rises slice items content chunk value is put rise = ap rises (is ∙ put) ∙ with_rises content chunk value rise

told_node : (tells : Bool) (s : Shelf) (at : ℕ) (leaf leaf' : Bool) (content : List Entry) → IsTrue tells → leaf ≡ leaf' → IsRead tells s at leaf content → NodeAt s at leaf' content
told_node tells s at leaf leaf' content told is read = subst (λ (b : Bool). NodeAt s at b content) is (read.node told)

pub leaf_put : (tells : Bool) (old mid new : Shelf) (r : Result Grown Refusal) (at chunk value : ℕ) (leaf : Bool) (content items slice : List Entry) → IsTrue tells → LieBelow old → mid ≡ old → leaf ≡ true → IsRead tells old at leaf content
    → slice ≡ items → items ≡ with_entry content chunk value → IfOk r (Stores true slice mid new) → IfOk r (Puts at chunk value old new)
leaf_put tells old mid new r at chunk value leaf content items slice told lie kept is read same put stores =
    on_ok r (Stores true slice mid new) (Puts at chunk value old new)
    (λ g s.
    let here : Stores true (with_entry content chunk value) old new g =
    subst (λ (l : List Entry). Stores true l old new g) (same ∙ put) (subst (λ (m : Shelf). Stores true slice m new g) kept s) in
    puts_leaf old new at chunk value content g lie (told_node tells old at leaf true content told is read) here)
    stores

-- ---- at an inner node

pub inner_some : (slice items content : List Entry) (chunk place : ℕ) (grown : Grown) → slice ≡ items → items ≡ with_child content place chunk grown → 1 ≤ length content → 1 ≤ length slice
inner_some slice items content chunk place grown is made some =
    let long = child_long content place chunk grown in
    subst (λ (l : List Entry). 1 ≤ length l) (sym (is ∙ made)) (omega (arith, long.0, some))

pub inner_rises : (slice items content children : List Entry) (chunk place child : ℕ) (grown : Grown) → slice ≡ items → items ≡ with_child content place chunk grown → children ≡ content → IsChild children chunk place child → rises content ≡ true → rises slice ≡ true
inner_rises slice items content children chunk place child grown is put same c rise =
    let c' : IsChild content chunk place child = subst (λ (l : List Entry). IsChild l chunk place child) same c in
    ap rises (is ∙ put) ∙ child_rises content place chunk grown c'.cut rise

pub inner_put : (tells : Bool) (old mid mid' new : Shelf) (r : Result Grown Refusal) (at chunk value place child : ℕ) (leaf : Bool) (content children items slice : List Entry) (grown : Grown) → IsTrue tells → LieBelow old → LieBelow mid' → mid ≡ old
    → leaf ≡ false → IsRead tells old at leaf content → children ≡ content → IsChild children chunk place child → Later mid mid' → Puts child chunk value mid mid' grown
    → slice ≡ items → items ≡ with_child content place chunk grown → IfOk r (Stores false slice mid' new) → IfOk r (Puts at chunk value old new)
inner_put tells old mid mid' new r at chunk value place child leaf content children items slice grown told lie lie' kept is read same c later puts got put stores =
    on_ok r (Stores false slice mid' new) (Puts at chunk value old new)
    (λ g s.
    puts_inner old mid' new at chunk value place child content grown g lie lie' (subst (λ (m : Shelf). Later m mid') kept later) (told_node tells old at leaf false content told is read)
    (subst (λ (l : List Entry). IsChild l chunk place child) same c) (subst (λ (m : Shelf). Puts child chunk value m mid' grown) kept puts)
    (subst (λ (l : List Entry). Stores false l mid' new g) (got ∙ put) s))
    stores

two_hold : (ok : ℕ → ℕ → Bool) (s : Shelf) (height : ℕ) (left right : Entry) (entries : List Entry) → LieBelow s → left.0 < right.0 → Stands ok s height 1 (Two left right) 0 None entries
    → Holds ok s (suc height) false (left ∷ right ∷ []) 0 None entries
two_hold ok s height left right entries lie apart stands =
    let first : left.1 < s.used = tree_below ok s lie height 126 left.1 left.0 (Some right.0) stands.0 stands.4 in
    let second : right.1 < s.used = tree_below ok s lie height 126 right.1 right.0 None stands.1 stands.5 in (
      refl,
      omega arith,
      and_from (lies_in 0 None left) (list_all (lies_in 0 None) (right ∷ [])) (lies 0 None left (omega arith) tt) (and_from (lies_in 0 None right) true (lies 0 None right (omega arith) tt) refl),
      (first, stands.0, stands.1, stands.2, stands.4, (second, stands.1, [], sym (append-nil stands.1), stands.5, refl)),
    )

pub root_grows : (tells : Bool) (old mid new : Shelf) (r : Result ℕ Refusal) (root : Option ℕ) (at chunk value : ℕ) (left right : Entry) (grown : Grown) → IsTrue tells → LieBelow mid → root ≡ Some at → grown ≡ Two left right → IsApart grown → Puts at chunk value old mid grown
    → IfOk r (AddsNode false (left ∷ right ∷ []) mid new) → (ok : ℕ → ℕ → Bool) (entries : List Entry) → StaysWell ok → IsTrue (ok old.used value) → Tree ok old root entries → IfOk r (λ (a : ℕ). Tree ok new (Some a) (with_entry entries chunk value))
root_grows tells old mid new r root at chunk value left right grown told lie is two apart puts added ok entries well okay tree =
    let here : Tree ok old (Some at) entries = subst (λ (o : Option ℕ). Tree ok old o entries) is tree in
    let rise : left.0 < right.0 = subst IsApart two apart in
    let stands : Stands ok mid here.0 1 (Two left right) 0 None (with_entry entries chunk value) =
    subst (λ (g : Grown). Stands ok mid here.0 1 g 0 None (with_entry entries chunk value)) two (puts.each ok here.0 1 0 None entries well okay (lies 0 None (chunk, value) (omega arith) tt) here.1) in
    on_ok r (AddsNode false (left ∷ right ∷ []) mid new) (λ (a : ℕ). Tree ok new (Some a) (with_entry entries chunk value))
    (λ a adds. (suc here.0, added_tree ok mid new (suc here.0) 1 a false (left ∷ right ∷ []) 0 None (with_entry entries chunk value) adds (omega arith) (two_hold ok mid here.0 left right (with_entry entries chunk value) lie rise stands)))
    added
