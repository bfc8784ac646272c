-- The key of a number stands where the numbers of its store that aren't lower begin.
use Rattle.std.proofs.Common.{◌≡◌, ℕ, zero, suc, ◌<◌, true, false, List, [], ◌∷◌, length, refl, sym, ap, ◌∙◌, subst, inl, inr, arith, get_or}
use Rattle.std.specs.Prelude.{Option, Some, None, is_some, IfNone}
use Rattle.std.specs.Global.{Box}
use Rattle.std.specs.Cmp.{tied_itself}
use Rattle.std.specs.Cmp.Lexicographic.{slice_cmp}
use Rattle.std.specs.Ordering.{nat_cmp, is_gt, ordering_then}
use Rattle.std.specs.declared.cmp.Ordering.{Ordering}
use Rattle.std.specs.declared.cmp.Ordering.TheVariants.{Less, Equal, Greater}
use Rattle.std.proofs.lemmas.Map.Lookups.{exact_unsigned}
use Rattle.wal_index.specs.declared.by_number.Numbered.{Numbered}
use Rattle.wal_index.specs.Numbers.{number_cmp, numbers_at, mark_of, marks, holds, AreNumbersSorted, IsStart}
use Rattle.wal_index.proofs.Orders.{numbers_total}
use Rattle.wal_index.proofs.Placed.{le_cases}
use Rattle.wal_index.proofs.Sorted.{rising, found_at, found_nowhere, turned_less}

none_below : (key : List ℕ) → is_gt (slice_cmp nat_cmp [] key) ≡ false
none_below [] = refl
none_below (x ∷ xs) = refl

still_greater : (a b c d : Ordering) → is_gt c ≡ false → ordering_then a (ordering_then b c) ≡ Greater → ordering_then a (ordering_then b d) ≡ Greater
still_greater Less b c d h is = cc
still_greater Greater b c d h is = refl
still_greater Equal Less c d h is = cc
still_greater Equal Greater c d h is = refl
still_greater Equal Equal c d h is = let wrong : true ≡ false = sym (ap is_gt is) ∙ h in cc

then_less : (a b c d : Ordering) → is_gt (ordering_then a (ordering_then b c)) ≡ false → (a ≡ Equal → b ≡ Equal → ⊥) → ordering_then a (ordering_then b d) ≡ Less
then_less Less b c d h apart = refl
then_less Greater b c d h apart = cc
then_less Equal Less c d h apart = refl
then_less Equal Greater c d h apart = cc
then_less Equal Equal c d h apart = absurd (apart refl refl)

-- an element of a list is the same with every default
pub same_at : {X : Type 0} (xs : List X) (j : ℕ) (d e : X) → j < length xs → get_or xs j d ≡ get_or xs j e
same_at [] j d e l = absurd (omega arith)
same_at (x ∷ xs) zero d e l = refl
same_at (x ∷ xs) (suc j) d e l = same_at xs j d e (omega arith)

pub none_then : {X : Type 0} (r : Option X) {P Q : Type 0} → IfNone r P → (P → Q) → IfNone r Q
none_then None h f = f h
none_then (Some x) h f = tt

module _ (numbers : List (Box Numbered)) (sorted : AreNumbersSorted numbers) where
  pub held_at : (i : ℕ) (r : Box Numbered) → i < length numbers → r ≡ get_or numbers i r → holds (marks numbers) r.value ≡ true
  held_at i r within is = ap is_some (found_at number_cmp mark_of r.value numbers i r within
      (λ d. ap (λ (s : Box Numbered). number_cmp r.value s.value) (same_at numbers i d r within ∙ sym is) ∙ tied_itself numbers_total r.value)
      (λ j d l. turned_less numbers_total _ r.value (ap (λ (s : Box Numbered). number_cmp (get_or numbers j d).value s.value) (is ∙ same_at numbers i r d within) ∙ rising number_cmp mark_of numbers sorted j i d l within))
      is)

  pub absent_from : (store seq i : ℕ) → IsStart (numbers_at store seq []) numbers i → ((d : Box Numbered) → i < length numbers → (get_or numbers i d).value.store ≡ store → (get_or numbers i d).value.seq ≡ seq → ⊥)
      → (key : List ℕ) → holds (marks numbers) (numbers_at store seq key) ≡ false
  absent_from store seq i start apart key =
      let q = numbers_at store seq key in
      let here : (d : Box Numbered) → i < length numbers → number_cmp q (get_or numbers i d).value ≡ Less = λ d m.
      then_less (nat_cmp store (get_or numbers i d).value.store) (nat_cmp seq (get_or numbers i d).value.seq) (slice_cmp nat_cmp [] (get_or numbers i d).value.key) (slice_cmp nat_cmp key (get_or numbers i d).value.key) (start.behind i d (omega arith) m)
      (λ a b. apart d m (sym (exact_unsigned store (get_or numbers i d).value.store a)) (sym (exact_unsigned seq (get_or numbers i d).value.seq b))) in
      ap is_some (found_nowhere number_cmp mark_of q numbers i
      (λ j d l. still_greater (nat_cmp store (get_or numbers j d).value.store) (nat_cmp seq (get_or numbers j d).value.seq) (slice_cmp nat_cmp [] (get_or numbers j d).value.key) (slice_cmp nat_cmp key (get_or numbers j d).value.key) (none_below (get_or numbers j d).value.key) (start.before j d l))
      (λ j d l m. elim (le_cases i j l) [
        | inl less ↦ numbers_total.trans q (get_or numbers i d).value (get_or numbers j d).value (here d (omega arith)) (rising number_cmp mark_of numbers sorted i j d less m)
        | inr e ↦ ap (λ (k : ℕ). number_cmp q (get_or numbers k d).value) (sym e) ∙ here d (subst (λ (k : ℕ). k < length numbers) (sym e) m)
      ]))
