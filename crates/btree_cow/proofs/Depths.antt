-- How high a tree can be: its entries lie in the 2^64 chunks that there are.
use Rattle.std.proofs.Common.{◌≡◌, inl, inr, ℕ, zero, suc, ◌<◌, ◌≤◌, ◌+◌, ◌-◌, ◌*◌, ◌^◌, Bool, true, List, [], ◌∷◌, length, sym, subst, arith}
use Rattle.std.specs.Prelude.{Option, Some, None, nat_lt}
use Rattle.std.specs.List.{list_all}
use Rattle.std.proofs.lemmas.Bool.{and_parts, ltb-true, cases_lt}
use Rattle.std.proofs.Math.Nat.{mul-le-mul_left}
use Rattle.node_page.specs.Nodes.{Entry, fits, rises}
use Rattle.btree_cow.specs.Shelf.{Shelf}
use Rattle.btree_cow.specs.Trees.{lies_in, Fan, TreeAt}
use Rattle.btree_cow.proofs.Borders.{at_least, below, raise}

-- the chunk at which there are no more
abbrev pub top : Option ℕ → ℕ
top None = 2 ^ 64
top (Some h) = h

-- so many chunks are in the least tree of a height, at a node that is no root
abbrev pub least_at : ℕ → ℕ
least_at zero = 126
least_at (suc height) = 126 * least_at height

under_top : (low : ℕ) (high : Option ℕ) (e : Entry) → lies_in low high e ≡ true → fits e ≡ true → e.0 < top high
under_top low None e h fit = ltb-true e.0 (2 ^ 64) (and_parts _ _ fit).0
under_top low (Some b) e h fit = below low (Some b) e h

-- rising chunks from a border on
leaf_wide : (low : ℕ) (high : Option ℕ) (es : List Entry) → 1 ≤ length es → rises es ≡ true → list_all fits es ≡ true → list_all (lies_in low high) es ≡ true → low + length es ≤ top high
leaf_wide low high [] some rise fit all = absurd (omega arith)
leaf_wide low high (e ∷ []) some rise fit all =
    let under : e.0 < top high = under_top low high e (and_parts _ _ all).0 (and_parts _ _ fit).0 in
    let above : low ≤ e.0 = at_least low high e (and_parts _ _ all).0 in
    omega arith
leaf_wide low high (e ∷ f ∷ es) some rise fit all =
    let a = and_parts (lies_in low high e) (list_all (lies_in low high) (f ∷ es)) all in
    let r = and_parts (list_all (λ (o : Entry). nat_lt e.0 o.0) (f ∷ es)) (rises (f ∷ es)) rise in
    let above : low ≤ e.0 = at_least low high e a.0 in
    let more : e.0 + 1 + length (f ∷ es) ≤ top high =
    leaf_wide (e.0 + 1) high (f ∷ es) (omega arith) r.1 (and_parts (fits e) (list_all fits (f ∷ es)) fit).1 (raise low e.0 high (f ∷ es) a.1 r.0) in
    omega arith

-- children of a width one behind another
module _ (Below : ℕ → ℕ → Option ℕ → List Entry → Type 0) (w : ℕ) (wide : (at low : ℕ) (high : Option ℕ) (es : List Entry) → Below at low high es → low + w ≤ top high) where
  chain_wide : (at : ℕ) (high : Option ℕ) (c : Entry) (children entries : List Entry) → Fan Below at (c ∷ children) high entries → c.0 + w * length (c ∷ children) ≤ top high
  chain_wide at high c [] entries fan =
      let one : c.0 + w ≤ top high = wide c.1 c.0 high fan.1 fan.4 in
      omega arith
  chain_wide at high c (d ∷ children) entries fan =
      let one : c.0 + w ≤ d.0 = wide c.1 c.0 (Some d.0) fan.1 fan.4 in
      let more : d.0 + w * length (d ∷ children) ≤ top high = chain_wide at high d children fan.2 fan.5 in
      omega arith

  fan_wide : (at low : ℕ) (high : Option ℕ) (children entries : List Entry) → 1 ≤ length children → list_all (lies_in low high) children ≡ true → Fan Below at children high entries → low + w * length children ≤ top high
  fan_wide at low high [] entries some all fan = absurd (omega arith)
  fan_wide at low high (c ∷ children) entries some all fan =
      let above : low ≤ c.0 = at_least low high c (and_parts _ _ all).0 in
      let chain : c.0 + w * length (c ∷ children) ≤ top high = chain_wide at high c children entries fan in
      omega arith

tree_wide : (ok : ℕ → ℕ → Bool) (s : Shelf) (height at low : ℕ) (high : Option ℕ) (entries : List Entry) → TreeAt ok s height 126 at low high entries → low + least_at height ≤ top high
tree_wide ok s zero at low high entries tree =
    let wide = leaf_wide low high entries tree.0.2.some tree.0.2.rise tree.0.2.fit tree.2 in
    omega (arith, tree.1)
tree_wide ok s (suc height) at low high entries tree =
    let wide = fan_wide (TreeAt ok s height 126) (least_at height) (λ at low high es t. tree_wide ok s height at low high es t) at low high tree.0 entries (omega (arith, tree.3)) tree.4 tree.5 in
    omega (arith, mul-le-mul_left (least_at height) tree.2)

root_wide : (ok : ℕ → ℕ → Bool) (s : Shelf) (height least at : ℕ) (entries : List Entry) → TreeAt ok s (suc height) least at 0 None entries → least_at height * 2 ≤ 2 ^ 64
root_wide ok s height least at entries tree =
    let wide = fan_wide (TreeAt ok s height 126) (least_at height) (λ at low high es t. tree_wide ok s height at low high es t) at 0 None tree.0 entries (omega (arith, tree.3)) tree.4 tree.5 in
    omega (arith, mul-le-mul_left (least_at height) tree.3)

too_wide : (k : ℕ) → 2 ^ 64 ≤ least_at (suc (suc (suc (suc (suc (suc (suc (suc (suc k)))))))))
too_wide zero = omega arith
too_wide (suc k) = omega (arith, too_wide k)

-- a tree is at most 9 high
pub most_high : (ok : ℕ → ℕ → Bool) (s : Shelf) (height least at : ℕ) (entries : List Entry) → TreeAt ok s height least at 0 None entries → height ≤ 9
most_high ok s zero least at entries tree = omega arith
most_high ok s (suc height) least at entries tree = elim (cases_lt height 9) [
  | inl low ↦ omega arith
  | inr high ↦
      let again : height ≡ suc (suc (suc (suc (suc (suc (suc (suc (suc (height - 9))))))))) = omega arith in
      let wide : 2 ^ 64 ≤ least_at height = subst (λ (h : ℕ). 2 ^ 64 ≤ least_at h) (sym again) (too_wide (height - 9)) in
      absurd (omega (arith, root_wide ok s height least at entries tree))
]
