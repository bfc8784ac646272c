-- Entries that are put in from the last to the first, as a map of them is made.
use Rattle.std.proofs.Common.{◌≡◌, ℕ, List, [], ◌∷◌, ◌++◌, length, refl, sym, ap, ◌∙◌, arith}
use Rattle.std.specs.FinMap as finite
use Rattle.std.specs.BTreeMap.{insert_entry}
use Rattle.std.specs.Cmp.{nat_cmp_total}
use Rattle.std.specs.FinMap.Entries.{by_order}
use Rattle.std.specs.Ordering.{nat_cmp, match_ordering}
use Rattle.std.specs.declared.cmp.Ordering.{Ordering}
use Rattle.std.specs.declared.cmp.Ordering.TheVariants.{Less, Equal, Greater}

abbrev pub Pairs : Type 0
Pairs = List (ℕ × List ℕ)

abbrev pub filled : Pairs → Pairs → Pairs
filled [] entries = entries
filled (e ∷ es) entries = insert_entry nat_cmp (filled es entries) e.0 e.1

-- the last is put in first
pub last_filled : (es : Pairs) (e : ℕ × List ℕ) (entries : Pairs) → filled (es ++ e ∷ []) entries ≡ filled es (insert_entry nat_cmp entries e.0 e.1)
last_filled [] e entries = refl
last_filled (x ∷ es) e entries = ap (λ (m : Pairs). insert_entry nat_cmp m x.0 x.1) (last_filled es e entries)

ordered : (r : Ordering) (a b c d : Pairs) → c ≡ d → match_ordering r a b c ≡ by_order r a b d
ordered Less a b c d e = refl
ordered Equal a b c d e = refl
ordered Greater a b c d e = e

put_is : (k : ℕ) (v : List ℕ) (es : Pairs) → insert_entry nat_cmp es k v ≡ finite.put nat_cmp k v es
put_is k v [] = refl
put_is k v (e ∷ es) =
    ordered (nat_cmp k e.0) ((k, v) ∷ e ∷ es) ((e.0, v) ∷ es) (e ∷ insert_entry nat_cmp es k v) (e ∷ finite.put nat_cmp k v es)
    (ap (λ (r : Pairs). e ∷ r) (put_is k v es))

pub nothing : (xs : Pairs) → length xs ≡ 0 → xs ≡ []
nothing [] e = refl
nothing (x ∷ xs) e = absurd (omega arith)

pub filled_is : (es : Pairs) → filled es [] ≡ finite.entries (finite.from_entries {R = nat_cmp} es)
filled_is [] = sym (nothing _ (sym (finite.len-entries (finite.empty {X = List ℕ} {R = nat_cmp})) ∙ finite.len-empty nat_cmp (List ℕ)))
filled_is (e ∷ es) =
    put_is e.0 e.1 (filled es []) ∙ ap (finite.put nat_cmp e.0 e.1) (filled_is es)
    ∙ sym (finite.entries-insert nat_cmp_total (finite.from_entries es) e.0 e.1)
