-- The nearest entry of a store stands at the border between the keys before and behind.
use Rattle.std.proofs.Common.{◌≡◌, ◌≢◌, ◌⊎◌, ℕ, zero, suc, ◌<◌, ◌≤◌, ◌+◌, Bool, true, false, ◌&&◌, ◌||◌, List, length, refl, sym, ap, ◌∙◌, subst, inl, inr, arith, get_or}
use Rattle.std.specs.Prelude.{Some, None, ◌==◌, not, nat_lt, slice_get, find, reverse, if◌then◌else◌}
use Rattle.std.specs.Global.{Box}
use Rattle.std.specs.Cmp.{nat_cmp_is}
use Rattle.std.specs.Ordering.{nat_cmp, is_lt, is_gt, is_eq, ordering_then}
use Rattle.std.specs.declared.cmp.Ordering.{Ordering}
use Rattle.std.specs.declared.cmp.Ordering.TheVariants.{Less, Equal, Greater}
use Rattle.std.proofs.lemmas.Bool.{eqb-true, eqb-false, ltb-true, ltb-false}
use Rattle.std.specs.Option.{option_map}
use Rattle.wal_index.proofs.Placed.{le_cases}
use Rattle.std.proofs.lemmas.Option.{slice_get_cases}
use Rattle.std.specs.Cmp.Lexicographic.{slice_cmp}
use Rattle.forest_model.specs.Key.{key_cmp}
use Rattle.forest_model.specs.declared.documents.DocKey.{DocKey}
use Rattle.forest_model.specs.declared.stored.Entry.{Entry}
use Rattle.forest_model.specs.declared.stored.KeyEntry.{KeyEntry}
use Rattle.wal_index.specs.Index.{is_past, nearest_of}
use Rattle.wal_index.specs.Rows.{key_of, pair_of, pairs, AreSorted, IsBorder, of_store}
use Rattle.wal_index.proofs.ByNumber.{same_at}
use Rattle.wal_index.proofs.Found.{first_at, no_first, last_at, no_last}
use Rattle.wal_index.proofs.Sorted.{rising}

-- ---- stores rise with keys

pub not_below : (a b : ℕ) (o : Ordering) → is_gt (ordering_then (nat_cmp a b) o) ≡ false → a ≤ b
not_below a b o h =
    elim (nat_lt b a) as (λ t. nat_lt b a ≡ t → a ≤ b) [
      | true ↦ λ t. let less : b < a = ltb-true b a t in let is = nat_cmp_is a b Greater less in
          let wrong : true ≡ false = ap (λ r. is_gt (ordering_then r o)) is ∙ h in cc
      | false ↦ λ t. ltb-false b a t
    ] refl

pub stores_rise : (a b : DocKey) → is_gt (key_cmp a b) ≡ false → a.store ≤ b.store
stores_rise a b h = not_below a.store b.store (slice_cmp nat_cmp a.key b.key) h

stores_fall : (a b : DocKey) → is_lt (key_cmp a b) ≡ false → b.store ≤ a.store
stores_fall a b h = not_above a.store b.store (slice_cmp nat_cmp a.key b.key) h
  where
    not_above : (x y : ℕ) (o : Ordering) → is_lt (ordering_then (nat_cmp x y) o) ≡ false → y ≤ x
    not_above x y o h =
        elim (nat_lt x y) as (λ t. nat_lt x y ≡ t → y ≤ x) [
          | true ↦ λ t. let less : x < y = ltb-true x y t in let is = nat_cmp_is x y Less less in
              let wrong : true ≡ false = ap (λ r. is_lt (ordering_then r o)) is ∙ h in cc
          | false ↦ λ t. ltb-false x y t
        ] refl

differ : (a b : ℕ) → ((a ≡ b) → ⊥) → (a == b) ≡ false
differ a b apart = elim (a == b) as (λ t. (a == b) ≡ t → t ≡ false) [ true ↦ λ t. absurd (apart (eqb-true a b t)) | false ↦ λ t. refl ] refl

pub le_or_gt : (n j : ℕ) → (n ≤ j) ⊎ (j < n)
le_or_gt zero j = inl (omega arith)
le_or_gt (suc n) zero = inr (omega arith)
le_or_gt (suc n) (suc j) = elim (le_or_gt n j) [ inl l ↦ inl (omega arith) | inr l ↦ inr (omega arith) ]

-- ---- the two directions

turned : (with : Bool) (o : Ordering) → ((with && is_eq o) || is_lt o) ≡ not ((not with && is_eq o) || is_gt o)
turned true Less = refl
turned true Equal = refl
turned true Greater = refl
turned false Less = refl
turned false Equal = refl
turned false Greater = refl

up_not_above : (with : Bool) (o : Ordering) → ((with && is_eq o) || is_lt o) ≡ true → is_gt o ≡ false
up_not_above with Less h = refl
up_not_above with Equal h = refl
up_not_above true Greater h = cc
up_not_above false Greater h = cc

down_not_below : (with : Bool) (o : Ordering) → ((with && is_eq o) || is_gt o) ≡ true → is_lt o ≡ false
down_not_below with Greater h = refl
down_not_below with Equal h = refl
down_not_below true Less h = cc
down_not_below false Less h = cc

no_and : (b : Bool) → (b && false) ≡ false
no_and true = refl
no_and false = refl

module _ (with : Bool) (q : DocKey) (boxes : List (Box KeyEntry)) (sorted : AreSorted boxes) where
  fails_by_store : (up : Bool) (r : Box KeyEntry) → (r.value.store == q.store) ≡ false → ((r.value.store == q.store) && is_past with up q (key_of r)) ≡ false
  fails_by_store up r h = ap (λ b. b && is_past with up q (key_of r)) h

  fails_by_key : (up : Bool) (r : Box KeyEntry) → is_past with up q (key_of r) ≡ false → ((r.value.store == q.store) && is_past with up q (key_of r)) ≡ false
  fails_by_key up r h = ap (λ b. (r.value.store == q.store) && b) h ∙ no_and (r.value.store == q.store)

  up_before : (n : ℕ) → IsBorder (is_past (not with) false q) boxes n → (j : ℕ) (d : Box KeyEntry) → j < n → (((get_or boxes j d).value.store == q.store) && is_past with true q (key_of (get_or boxes j d))) ≡ false
  up_before n border j d l = fails_by_key true (get_or boxes j d) (turned with (key_cmp q (key_of (get_or boxes j d))) ∙ ap not (border.before j d l))

  up_there : (n : ℕ) → IsBorder (is_past (not with) false q) boxes n → (j : ℕ) (d : Box KeyEntry) → n ≤ j → j < length boxes → is_past with true q (key_of (get_or boxes j d)) ≡ true
  up_there n border j d l m = turned with (key_cmp q (key_of (get_or boxes j d))) ∙ ap not (border.behind j d l m)

  -- behind a row of another store all are of other stores
  up_other : (n : ℕ) → IsBorder (is_past (not with) false q) boxes n → (r : Box KeyEntry) → get_or boxes n r ≡ r → (r.value.store == q.store) ≡ false → (j : ℕ) (d : Box KeyEntry) → n ≤ j → j < length boxes
      → ((get_or boxes j d).value.store == q.store) ≡ false
  up_other n border r is other j d l m = elim (le_cases n j l) [
    | inl less ↦
        let here : r.value.store ≤ (get_or boxes j r).value.store = stores_rise (key_of r) (key_of (get_or boxes j r)) (ap is_gt (subst (λ (s : Box KeyEntry). key_cmp (key_of s) (key_of (get_or boxes j r)) ≡ Less) is (rising key_cmp pair_of boxes sorted n j r less m))) in
        let above : q.store ≤ r.value.store = stores_rise q (key_of r) (up_not_above with (key_cmp q (key_of r)) (subst (λ (s : Box KeyEntry). is_past with true q (key_of s) ≡ true) is (up_there n border n r (omega arith) (omega arith)))) in
        let apart : r.value.store ≢ q.store = eqb-false r.value.store q.store other in
        ap (λ (s : Box KeyEntry). s.value.store == q.store) (same_at boxes j d r m) ∙ differ (get_or boxes j r).value.store q.store (λ same. apart (omega arith))
    | inr e ↦ ap (λ (s : Box KeyEntry). s.value.store == q.store) (ap (λ k. get_or boxes k d) (sym e) ∙ same_at boxes n d r (subst (λ k. k < length boxes) (sym e) m) ∙ is) ∙ other
  ]

  pub up_at : (n : ℕ) → IsBorder (is_past (not with) false q) boxes n → of_store q.store (option_map pair_of (slice_get boxes n)) ≡ nearest_of with true (pairs boxes) q
  up_at n border = elim (slice_get_cases boxes n).1 [
    | inl here ↦
        let r = here.0 in
        let p : DocKey × Entry → Bool = λ e. (e.0.store == q.store) && is_past with true q e.0 in
        let past : is_past with true q (key_of r) ≡ true = subst (λ (s : Box KeyEntry). is_past with true q (key_of s) ≡ true) here.3 (up_there n border n r (omega arith) here.1) in
        ap (λ o. of_store q.store (option_map pair_of o)) here.2
        ∙ elim (r.value.store == q.store) as (λ b. (r.value.store == q.store) ≡ b → (if b then Some (pair_of r) else None) ≡ find p (pairs boxes)) [
          | true ↦ λ same. sym (first_at pair_of p boxes n r here.1 (sym here.3) (ap (λ b. b && is_past with true q (key_of r)) same ∙ past) (up_before n border))
          | false ↦ λ other. sym (no_first pair_of p boxes (λ j d m. elim (le_or_gt n j) [
            | inl l ↦ fails_by_store true (get_or boxes j d) (up_other n border r here.3 other j d l m)
            | inr l ↦ up_before n border j d l
          ]))
        ] refl
    | inr past ↦
        let p : DocKey × Entry → Bool = λ e. (e.0.store == q.store) && is_past with true q e.0 in
        ap (λ o. of_store q.store (option_map pair_of o)) past.1 ∙ sym (no_first pair_of p boxes (λ j d m. up_before n border j d (let le : length boxes ≤ n = past.0 in omega arith)))
  ]

  -- before a row of another store all are of other stores
  down_other : (n : ℕ) → n < length boxes → IsBorder (is_past with false q) boxes (n + 1) → (r : Box KeyEntry) → get_or boxes n r ≡ r → (r.value.store == q.store) ≡ false → (j : ℕ) (d : Box KeyEntry) → j ≤ n
      → ((get_or boxes j d).value.store == q.store) ≡ false
  down_other n within border r is other j d l = elim (le_cases j n l) [
    | inl less ↦
        let here : (get_or boxes j r).value.store ≤ r.value.store = stores_rise (key_of (get_or boxes j r)) (key_of r) (ap is_gt (subst (λ (s : Box KeyEntry). key_cmp (key_of (get_or boxes j r)) (key_of s) ≡ Less) is (rising key_cmp pair_of boxes sorted j n r less within))) in
        let below : r.value.store ≤ q.store = stores_fall q (key_of r) (down_not_below with (key_cmp q (key_of r)) (subst (λ (s : Box KeyEntry). is_past with false q (key_of s) ≡ true) is (border.before n r (omega arith)))) in
        let apart : r.value.store ≢ q.store = eqb-false r.value.store q.store other in
        let m : j < length boxes = omega arith in
        ap (λ (s : Box KeyEntry). s.value.store == q.store) (same_at boxes j d r m) ∙ differ (get_or boxes j r).value.store q.store (λ same. apart (omega arith))
    | inr e ↦ ap (λ (s : Box KeyEntry). s.value.store == q.store) (ap (λ k. get_or boxes k d) e ∙ same_at boxes n d r within ∙ is) ∙ other
  ]

  pub down_at : (n : ℕ) → n < length boxes → IsBorder (is_past with false q) boxes (n + 1) → of_store q.store (option_map pair_of (slice_get boxes n)) ≡ nearest_of with false (pairs boxes) q
  down_at n within border = elim (slice_get_cases boxes n).1 [
    | inl here ↦
        let r = here.0 in
        let p : DocKey × Entry → Bool = λ e. (e.0.store == q.store) && is_past with false q e.0 in
        let past : is_past with false q (key_of r) ≡ true = subst (λ (s : Box KeyEntry). is_past with false q (key_of s) ≡ true) here.3 (border.before n r (omega arith)) in
        ap (λ o. of_store q.store (option_map pair_of o)) here.2
        ∙ elim (r.value.store == q.store) as (λ b. (r.value.store == q.store) ≡ b → (if b then Some (pair_of r) else None) ≡ find p (reverse (pairs boxes))) [
          | true ↦ λ same. sym (last_at pair_of p boxes n r here.1 (sym here.3) (ap (λ b. b && is_past with false q (key_of r)) same ∙ past) (λ j d l m. fails_by_key false (get_or boxes j d) (border.behind j d (omega arith) m)))
          | false ↦ λ other. sym (no_last pair_of p boxes (λ j d m. elim (le_or_gt (n + 1) j) [
            | inl l ↦ fails_by_key false (get_or boxes j d) (border.behind j d l m)
            | inr l ↦ fails_by_store false (get_or boxes j d) (down_other n within border r here.3 other j d (omega arith))
          ]))
        ] refl
    | inr past ↦ absurd (let le : length boxes ≤ n = past.0 in omega arith)
  ]

  pub down_none : IsBorder (is_past with false q) boxes 0 → None ≡ nearest_of with false (pairs boxes) q
  down_none border =
      let p : DocKey × Entry → Bool = λ e. (e.0.store == q.store) && is_past with false q e.0 in
      sym (no_last pair_of p boxes (λ j d m. fails_by_key false (get_or boxes j d) (border.behind j d (omega arith) m)))
