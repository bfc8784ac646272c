-- The entries of a tree: they rise, and each value is well in its leaf.
use Rattle.std.proofs.Common.{◌≡◌, ◌⊎◌, inl, inr, ℕ, zero, suc, ◌+◌, ◌<◌, ◌≤◌, Bool, true, List, [], ◌∷◌, ◌++◌, sym, ap, ◌∙◌, arith}
use Rattle.std.specs.Prelude.{Option, Some, None, IsTrue, slice_get}
use Rattle.std.specs.List.{list_all}
use Rattle.std.proofs.lemmas.Bool.{and_parts, and_from}
use Rattle.std.proofs.lemmas.List.{append-nil}
use Rattle.std.proofs.lemmas.Option.{none-some}
use Rattle.node_page.specs.Nodes.{Entry, rises}
use Rattle.btree_cow.specs.Causes.{IsAmong}
use Rattle.btree_cow.specs.Shelf.{Shelf, LieBelow}
use Rattle.btree_cow.specs.Trees.{lies_in, border, Fan, NodeAt, Tree, TreeAt}
use Rattle.btree_cow.proofs.Borders.{below, inside_same, lies, raise, widen}
use Rattle.btree_cow.proofs.Contents.{rises_join}
use Rattle.btree_cow.proofs.Fans.{fan_inside, tree_inside}
use Rattle.btree_cow.proofs.Growth.{tree_below}
use Rattle.btree_cow.proofs.Ranks.{all_at}
use Rattle.btree_cow.proofs.WithEntries.{is_over}

-- all from the first one on lie at or above its chunk
from_first : (low : ℕ) (high : Option ℕ) (d : Entry) (xs : List Entry) → list_all (is_over d.0) xs ≡ true → list_all (lies_in low high) (d ∷ xs) ≡ true → list_all (lies_in d.0 high) (d ∷ xs) ≡ true
from_first low high d xs over all =
    let parts = and_parts (lies_in low high d) (list_all (lies_in low high) xs) all in
    and_from (lies_in d.0 high d) (list_all (lies_in d.0 high) xs) (lies d.0 high d (omega arith) (below low high d parts.0))
    (widen (d.0 + 1) d.0 high high (omega arith) (inside_same high) xs (raise low d.0 high xs parts.1 over))

module _ (Below : ℕ → ℕ → Option ℕ → List Entry → Type 0) (inside : (at low : ℕ) (high : Option ℕ) (es : List Entry) → Below at low high es → list_all (lies_in low high) es ≡ true) (rise : (at low : ℕ) (high : Option ℕ) (es : List Entry) → Below at low high es → rises es ≡ true) where
  fan_rises : (at low : ℕ) (high : Option ℕ) (children entries : List Entry) → rises children ≡ true → list_all (lies_in low high) children ≡ true → Fan Below at children high entries → rises entries ≡ true
  fan_rises at low high [] entries up all fan = ap rises fan
  fan_rises at low high (c ∷ []) entries up all fan =
      ap rises (fan.3 ∙ ap (λ (l : List Entry). fan.1 ++ l) fan.5 ∙ append-nil fan.1) ∙ rise c.1 c.0 high fan.1 fan.4
  fan_rises at low high (c ∷ d ∷ children) entries up all fan =
      let ups = and_parts (list_all (is_over c.0) (d ∷ children)) (rises (d ∷ children)) up in
      let over = and_parts (list_all (is_over d.0) children) (rises children) ups.1 in
      let parts = and_parts (lies_in low high c) (list_all (lies_in low high) (d ∷ children)) all in
      let behind = from_first low high d children over.0 parts.1 in
      ap rises fan.3
      ∙ rises_join fan.1 fan.2 c.0 d.0 high (rise c.1 c.0 (Some d.0) fan.1 fan.4) (fan_rises at low high (d ∷ children) fan.2 ups.1 parts.1 fan.5) (inside c.1 c.0 (Some d.0) fan.1 fan.4)
      (fan_inside Below inside at d.0 high (d ∷ children) fan.2 behind fan.5)

tree_rises : (ok : ℕ → ℕ → Bool) (s : Shelf) (height least at low : ℕ) (high : Option ℕ) (entries : List Entry) → TreeAt ok s height least at low high entries → rises entries ≡ true
tree_rises ok s zero least at low high entries tree = tree.0.2.rise
tree_rises ok s (suc height) least at low high entries tree =
    fan_rises (TreeAt ok s height 126) (λ at low high es t. tree_inside ok s height 126 at low high es t) (λ at low high es t. tree_rises ok s height 126 at low high es t)
    at low high tree.0 entries tree.1.2.rise tree.4 tree.5

pub entries_rise : (ok : ℕ → ℕ → Bool) (s : Shelf) (root : Option ℕ) (entries : List Entry) → Tree ok s root entries → rises entries ≡ true
entries_rise ok s None entries tree = ap rises tree
entries_rise ok s (Some at) entries tree = tree_rises ok s tree.0 1 at 0 None entries tree.1

-- an element of two lists is one of the first or of the second
either : (xs ys : List Entry) (n : ℕ) (e : Entry) → slice_get (xs ++ ys) n ≡ Some e → IsAmong e xs ⊎ IsAmong e ys
either [] ys n e is = inr (n, is)
either (x ∷ xs) ys zero e is = inl (0, is)
either (x ∷ xs) ys (suc n) e is =
    elim (either xs ys n e is) [
      | inl h ↦ inl (suc h.0, h.1)
      | inr h ↦ inr h
    ]

-- the block of an entry's leaf, which isn't above a block, and in which the value is well
abbrev IsWellBelow : (ℕ → ℕ → Bool) → Shelf → ℕ → Entry → Type 0
IsWellBelow ok s at e = (leaf : ℕ) × (leaf ≤ at) × IsTrue (ok leaf e.1) × (content : List Entry) × NodeAt s leaf true content × IsAmong e content

module _ (ok : ℕ → ℕ → Bool) (s : Shelf) (Below : ℕ → ℕ → Option ℕ → List Entry → Type 0) (each : (at low : ℕ) (high : Option ℕ) (es : List Entry) → Below at low high es → (e : Entry) → IsAmong e es → IsWellBelow ok s at e) where
  fan_well : (at : ℕ) (high : Option ℕ) (children entries : List Entry) → Fan Below at children high entries → (e : Entry) → IsAmong e entries → IsWellBelow ok s at e
  fan_well at high [] entries fan e among = absurd (none-some e (ap (λ (l : List Entry). slice_get l among.0) (sym fan) ∙ among.1))
  fan_well at high (c ∷ children) entries fan e among =
      elim (either fan.1 fan.2 among.0 e (ap (λ (l : List Entry). slice_get l among.0) (sym fan.3) ∙ among.1)) [
        | inl h ↦ let w = each c.1 c.0 (border children high) fan.1 fan.4 e h in (w.0, omega (arith, w.1, fan.0), w.2, w.3, w.4, w.5)
        | inr h ↦ fan_well at high children fan.2 fan.5 e h
      ]

tree_well : (ok : ℕ → ℕ → Bool) (s : Shelf) (height least at low : ℕ) (high : Option ℕ) (entries : List Entry) → TreeAt ok s height least at low high entries → (e : Entry) → IsAmong e entries → IsWellBelow ok s at e
tree_well ok s zero least at low high entries tree e among =
    (at, omega arith, all_at (λ (x : Entry). ok at x.1) entries among.0 e tree.3 among.1, entries, tree.0, among)
tree_well ok s (suc height) least at low high entries tree e among =
    fan_well ok s (TreeAt ok s height 126) (λ at low high es t e h. tree_well ok s height 126 at low high es t e h) at high tree.0 entries tree.5 e among

pub values_are_well : (ok : ℕ → ℕ → Bool) (s : Shelf) (root : ℕ) (entries : List Entry) (e : Entry) → Tree ok s (Some root) entries → IsAmong e entries → IsWellBelow ok s root e
values_are_well ok s root entries e tree among = tree_well ok s tree.0 1 root 0 None entries tree.1 e among

pub root_is_below : (ok : ℕ → ℕ → Bool) (s : Shelf) (root : ℕ) (entries : List Entry) → LieBelow s → Tree ok s (Some root) entries → root < s.used
root_is_below ok s root entries lie tree = tree_below ok s lie tree.0 1 root 0 None entries tree.1
