-- The entries of a node's children one behind another.
use Rattle.std.proofs.Common.{◌≡◌, ℕ, zero, suc, ◌≤◌, Bool, true, List, [], ◌∷◌, ◌++◌, length, refl, sym, ap, ◌∙◌, subst, arith, append_assoc, length-append}
use Rattle.std.specs.Prelude.{Option}
use Rattle.std.specs.List.{list_all}
use Rattle.std.proofs.lemmas.Bool.{and_parts}
use Rattle.node_page.specs.Nodes.{Entry, fits}
use Rattle.btree_cow.specs.Shelf.{Shelf}
use Rattle.btree_cow.specs.Trees.{lies_in, border, Fan, TreeAt}
use Rattle.btree_cow.proofs.Finds.{all_both}
use Rattle.btree_cow.proofs.Borders.{at_least, widen, border_inside, border_append}

module _ (Below : ℕ → ℕ → Option ℕ → List Entry → Type 0) where
  pub fan_split : (at : ℕ) (xs ys : List Entry) (high : Option ℕ) (entries : List Entry) → Fan Below at (xs ++ ys) high entries
      → (front : List Entry) × (back : List Entry) × (entries ≡ front ++ back) × Fan Below at xs (border ys high) front × Fan Below at ys high back
  fan_split at [] ys high entries fan = ([], entries, refl, refl, fan)
  fan_split at (x ∷ xs) ys high entries fan =
      let more = fan_split at xs ys high fan.2 fan.5 in (
        fan.1 ++ more.0,
        more.1,
        fan.3 ∙ ap (λ (l : List Entry). fan.1 ++ l) more.2 ∙ sym (append_assoc fan.1 more.0 more.1),
        (fan.0, fan.1, more.0, refl, subst (λ (b : Option ℕ). Below x.1 x.0 b fan.1) (border_append xs ys high) fan.4, more.3),
        more.4,
      )

  pub fan_inside : ((at low : ℕ) (high : Option ℕ) (es : List Entry) → Below at low high es → list_all (lies_in low high) es ≡ true)
      → (at low : ℕ) (high : Option ℕ) (children entries : List Entry) → list_all (lies_in low high) children ≡ true → Fan Below at children high entries → list_all (lies_in low high) entries ≡ true
  fan_inside inside at low high [] entries all fan = ap (list_all (lies_in low high)) fan
  fan_inside inside at low high (c ∷ children) entries all fan =
      let parts = and_parts (lies_in low high c) (list_all (lies_in low high) children) all in
      ap (list_all (lies_in low high)) fan.3
      ∙ all_both (lies_in low high) fan.1 fan.2
      (widen c.0 low (border children high) high (at_least low high c parts.0) (border_inside low high children parts.1) fan.1 (inside c.1 c.0 (border children high) fan.1 fan.4))
      (fan_inside inside at low high children fan.2 parts.1 fan.5)

  pub fan_all : (p : Entry → Bool) → ((at low : ℕ) (high : Option ℕ) (es : List Entry) → Below at low high es → list_all p es ≡ true)
      → (at : ℕ) (high : Option ℕ) (children entries : List Entry) → Fan Below at children high entries → list_all p entries ≡ true
  fan_all p each at high [] entries fan = ap (list_all p) fan
  fan_all p each at high (c ∷ children) entries fan =
      ap (list_all p) fan.3 ∙ all_both p fan.1 fan.2 (each c.1 c.0 (border children high) fan.1 fan.4) (fan_all p each at high children fan.2 fan.5)

  pub fan_some : ((at low : ℕ) (high : Option ℕ) (es : List Entry) → Below at low high es → 1 ≤ length es)
      → (at : ℕ) (high : Option ℕ) (children entries : List Entry) → 1 ≤ length children → Fan Below at children high entries → 1 ≤ length entries
  fan_some some at high [] entries more fan = absurd (omega arith)
  fan_some some at high (c ∷ children) entries more fan =
      omega (arith, some c.1 c.0 (border children high) fan.1 fan.4, ap (λ (l : List Entry). length l) fan.3, length-append fan.1 fan.2)

-- all entries of a tree lie in its borders
pub tree_inside : (ok : ℕ → ℕ → Bool) (s : Shelf) (height least at low : ℕ) (high : Option ℕ) (entries : List Entry) → TreeAt ok s height least at low high entries → list_all (lies_in low high) entries ≡ true
tree_inside ok s zero least at low high entries tree = tree.2
tree_inside ok s (suc height) least at low high entries tree =
    fan_inside (TreeAt ok s height 126) (λ at low high es t. tree_inside ok s height 126 at low high es t) at low high tree.0 entries tree.4 tree.5

-- no tree is empty
pub tree_some : (ok : ℕ → ℕ → Bool) (s : Shelf) (height least at low : ℕ) (high : Option ℕ) (entries : List Entry) → TreeAt ok s height least at low high entries → 1 ≤ length entries
tree_some ok s zero least at low high entries tree = tree.0.2.some
tree_some ok s (suc height) least at low high entries tree =
    fan_some (TreeAt ok s height 126) (λ at low high es t. tree_some ok s height 126 at low high es t) at high tree.0 entries (omega (arith, tree.3)) tree.5

-- all entries fit 64 bits
pub tree_fit : (ok : ℕ → ℕ → Bool) (s : Shelf) (height least at low : ℕ) (high : Option ℕ) (entries : List Entry) → TreeAt ok s height least at low high entries → list_all fits entries ≡ true
tree_fit ok s zero least at low high entries tree = tree.0.2.fit
tree_fit ok s (suc height) least at low high entries tree =
    fan_all (TreeAt ok s height 126) fits (λ at low high es t. tree_fit ok s height 126 at low high es t) at high tree.0 entries tree.5
