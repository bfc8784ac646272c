-- Entries whose chunks rise by steps of 3, as the tests make them.
use Rattle.std.proofs.Common.{◌≡◌, ◌<◌, ◌≤◌, ◌+◌, ◌*◌, ℕ, Bool, true, List, [], ◌∷◌, ◌++◌, length, take, set, refl, subst, ◌∙◌, ap, arith, length-set}
use Rattle.std.specs.Prelude.{nat_lt}
use Rattle.std.specs.List.{list_all}
use Rattle.std.proofs.lemmas.Bool.{and_parts, and_from, ltb-true, lt-ltb}
use Rattle.std.proofs.lemmas.List.{take_all, take_more_set}
use Rattle.std.proofs.lemmas.List.Folds.{list_all-append}
use Rattle.node_page.specs.Nodes.{Entry, rises}

abbrev pub are_below : ℕ → List Entry → Bool
are_below bound es = list_all (λ (e : Entry). nat_lt e.0 bound) es

-- the first n entries rise, each below 3 n
pub record IsRow (n : ℕ) (entries : List Entry) : Type 0 where
  pub len : length entries ≡ 253
  pub rise : rises (take n entries) ≡ true
  pub below : are_below (3 * n) (take n entries) ≡ true

-- one entry more, above all others
rises_more : (es : List Entry) (e : Entry) → rises es ≡ true → are_below e.0 es ≡ true → rises (es ++ e ∷ []) ≡ true
rises_more [] e rise below = refl
rises_more (f ∷ es) e rise below =
    let parts = and_parts (list_all (λ (o : Entry). nat_lt f.0 o.0) es) (rises es) rise in
    let bounds = and_parts (nat_lt f.0 e.0) (are_below e.0 es) below in
    let last : list_all (λ (o : Entry). nat_lt f.0 o.0) (e ∷ []) ≡ true = and_from (nat_lt f.0 e.0) true bounds.0 refl in
    let above : list_all (λ (o : Entry). nat_lt f.0 o.0) (es ++ e ∷ []) ≡ true =
    list_all-append (λ (o : Entry). nat_lt f.0 o.0) es (e ∷ []) ∙ and_from (list_all (λ (o : Entry). nat_lt f.0 o.0) es) (list_all (λ (o : Entry). nat_lt f.0 o.0) (e ∷ [])) parts.0 last in
    and_from (list_all (λ (o : Entry). nat_lt f.0 o.0) (es ++ e ∷ [])) (rises (es ++ e ∷ [])) above (rises_more es e parts.1 bounds.1)

below_more : (a b : ℕ) (es : List Entry) → a ≤ b → are_below a es ≡ true → are_below b es ≡ true
below_more a b [] le below = refl
below_more a b (e ∷ es) le below =
    let parts = and_parts (nat_lt e.0 a) (are_below a es) below in
    let less : e.0 < a = ltb-true e.0 a parts.0 in
    and_from (nat_lt e.0 b) (are_below b es) (lt-ltb e.0 b (omega arith)) (below_more a b es le parts.1)

pub row_more : (n value : ℕ) (entries : List Entry) → IsRow n entries → n < 253 → IsRow (n + 1) (set entries n (3 * n, value))
row_more n value entries row within =
    let e : Entry = (3 * n, value) in
    let front : take (n + 1) (set entries n e) ≡ take n entries ++ e ∷ [] = take_more_set entries n e (omega (arith, row.len)) in
    let last : are_below (3 * (n + 1)) (e ∷ []) ≡ true = and_from (nat_lt (3 * n) (3 * (n + 1))) true (lt-ltb (3 * n) (3 * (n + 1)) (omega arith)) refl in
    record {
      len = length-set entries n e ∙ row.len;
      rise = ap rises front ∙ rises_more (take n entries) e row.rise row.below;
      below = ap (are_below (3 * (n + 1))) front ∙ list_all-append (λ (o : Entry). nat_lt o.0 (3 * (n + 1))) (take n entries) (e ∷ [])
          ∙ and_from (are_below (3 * (n + 1)) (take n entries)) (are_below (3 * (n + 1)) (e ∷ [])) (below_more (3 * n) (3 * (n + 1)) (take n entries) (omega arith) row.below) last;
    }

pub row_rises : (n : ℕ) (entries : List Entry) → IsRow n entries → 253 ≤ n → rises entries ≡ true
row_rises n entries row past = subst (λ (es : List Entry). rises es ≡ true) (take_all n entries (omega (arith, row.len))) row.rise
