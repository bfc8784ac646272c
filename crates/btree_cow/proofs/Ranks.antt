-- Where a search stands among rising chunks.
use Rattle.std.proofs.Common.{◌≡◌, ◌⊎◌, inl, inr, ℕ, zero, suc, ◌<◌, ◌≤◌, ◌+◌, Bool, true, false, List, [], ◌∷◌, length, take, drop, refl, sym, ap, ◌∙◌, subst, arith, ◌&&◌, add-one}
use Rattle.std.specs.Prelude.{Some, IsTrue, not, nat_lt, ◌==◌, slice_get}
use Rattle.std.specs.List.{list_all}
use Rattle.std.proofs.lemmas.Bool.{and_parts, and_from, ltb-true, not_from_false, not-true, true≢false, false_from_ne_true, ltb-false, or_parts, eqb-true, or_cases}
use Rattle.std.proofs.lemmas.Option.{none-some, same_Some}
use Rattle.std.proofs.lemmas.List.{drop_all}
use Rattle.node_page.specs.Nodes.{Entry, rises}
use Rattle.btree_cow.specs.Trees.{is_past}
use Rattle.btree_cow.specs.Walks.{is_late, IsRank}
use Rattle.btree_cow.proofs.Finds.{all_so}
use Rattle.btree_cow.proofs.Nearest.{past_above, not_past_above}

-- what is so before one place, and not from another on
pub record IsBetween (late : Entry → Bool) (entries : List Entry) (low high : ℕ) : Type 0 where
  pub early : IsTrue (list_all (λ (e : Entry). not (late e)) (take low entries))
  pub behind : IsTrue (list_all late (drop high entries))

-- above one that is behind all are behind
late_above : (with up : Bool) (q : ℕ) (a b : Entry) → a.0 < b.0 → is_late with up q a ≡ true → is_late with up q b ≡ true
late_above with true q a b less late = past_above with q b.0 (reached (or_cases (with && (q == a.0)) (nat_lt q a.0) late))
  where
    reached : (((with && (q == a.0)) ≡ true) ⊎ (nat_lt q a.0 ≡ true)) → q < b.0
    reached (inl same) = let is : q ≡ a.0 = eqb-true q a.0 (and_parts with (q == a.0) same).1 in omega arith
    reached (inr above) = let is : q < a.0 = ltb-true q a.0 above in omega arith
late_above with false q a b less late =
    let above : q ≤ a.0 = ltb-false a.0 q (or_parts (with && (q == a.0)) (nat_lt a.0 q) (not-true (is_past with false q a.0) late)).1 in
    not_from_false (is_past with false q b.0) (not_past_above with q b.0 (omega arith))

pub all_at : {X : Type 0} (p : X → Bool) (xs : List X) (n : ℕ) (x : X) → list_all p xs ≡ true → slice_get xs n ≡ Some x → p x ≡ true
all_at p [] n x all is = absurd (none-some x is)
all_at p (y ∷ xs) zero x all is = subst (λ z. p z ≡ true) (same_Some y x is) (and_parts _ _ all).0
all_at p (y ∷ xs) (suc n) x all is = all_at p xs n x (and_parts (p y) (list_all p xs) all).1 is

module _ (late : Entry → Bool) (above : (a b : Entry) → a.0 < b.0 → late a ≡ true → late b ≡ true) where
  early_upto : (es : List Entry) (n : ℕ) (e : Entry) → rises es ≡ true → slice_get es n ≡ Some e → late e ≡ false → list_all (λ (e : Entry). not (late e)) (take (suc n) es) ≡ true
  early_upto [] n e rise is isnt = absurd (none-some e is)
  early_upto (x ∷ es) zero e rise is isnt = and_from (not (late x)) true (not_from_false (late x) (ap late (same_Some x e is) ∙ isnt)) refl
  early_upto (x ∷ es) (suc n) e rise is isnt =
      let r = and_parts (list_all (λ (o : Entry). nat_lt x.0 o.0) es) (rises es) rise in
      let less : x.0 < e.0 = ltb-true x.0 e.0 (all_at (λ (o : Entry). nat_lt x.0 o.0) es n e r.0 is) in
      let here : late x ≡ false = false_from_ne_true (late x) (λ so. true≢false (sym (above x e less so) ∙ isnt)) in
      and_from (not (late x)) (list_all (λ (e : Entry). not (late e)) (take (suc n) es)) (not_from_false (late x) here) (early_upto es n e r.1 is isnt)

  behind_from : (es : List Entry) (n : ℕ) (e : Entry) → rises es ≡ true → slice_get es n ≡ Some e → late e ≡ true → list_all late (drop n es) ≡ true
  behind_from [] n e rise is late_e = absurd (none-some e is)
  behind_from (x ∷ es) zero e rise is late_e =
      let r = and_parts (list_all (λ (o : Entry). nat_lt x.0 o.0) es) (rises es) rise in
      let here : late x ≡ true = ap late (same_Some x e is) ∙ late_e in
      and_from (late x) (list_all late es) here (all_so (λ (o : Entry). nat_lt x.0 o.0) late (λ o less. above x o (ltb-true x.0 o.0 less) here) es r.0)
  behind_from (x ∷ es) (suc n) e rise is late_e = behind_from es n e (and_parts (list_all (λ (o : Entry). nat_lt x.0 o.0) es) (rises es) rise).1 is late_e

-- the halving steps
pub start : (late : Entry → Bool) (es : List Entry) (n : ℕ) → n ≡ length es → IsBetween late es 0 n
start late es n whole = record { early = refl; behind = ap (list_all late) (drop_all n es (omega arith)) }

pub lower : (with up : Bool) (q : ℕ) (es : List Entry) (low high n : ℕ) (e : Entry) → rises es ≡ true → IsBetween (is_late with up q) es low high → slice_get es n ≡ Some e → is_late with up q e ≡ false → IsBetween (is_late with up q) es (n + 1) high
lower with up q es low high n e rise b is isnt = record {
  early = rw (add-one n) (early_upto (is_late with up q) (late_above with up q) es n e rise is isnt);
  behind = b.behind;
}

pub higher : (with up : Bool) (q : ℕ) (es : List Entry) (low high n : ℕ) (e : Entry) → rises es ≡ true → IsBetween (is_late with up q) es low high → slice_get es n ≡ Some e → is_late with up q e ≡ true → IsBetween (is_late with up q) es low n
higher with up q es low high n e rise b is late_e = record {
  early = b.early;
  behind = behind_from (is_late with up q) (late_above with up q) es n e rise is late_e;
}

-- the end of it
pub rank_is : (late : Entry → Bool) (es : List Entry) (low high : ℕ) → low ≡ high → low ≤ length es → IsBetween late es low high → IsRank late es low
rank_is late es low high same within b = record { within = within; early = b.early; behind = subst (λ (n : ℕ). list_all late (drop n es) ≡ true) (sym same) b.behind }
