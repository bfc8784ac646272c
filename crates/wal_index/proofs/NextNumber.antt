-- The nearest number of a store stands at the border between the numbers before and behind.
use Rattle.std.proofs.Common.{◌≡◌, ℕ, suc, ◌<◌, ◌≤◌, ◌+◌, Bool, true, false, cond, ◌&&◌, ◌||◌, List, [], ◌∷◌, length, refl, sym, ap, ◌∙◌, subst, inl, inr, arith, get_or}
use Rattle.std.specs.Prelude.{Some, is_some, ◌==◌, not, nat_lt}
use Rattle.std.specs.Global.{Box}
use Rattle.std.specs.FinMap as finite
use Rattle.std.specs.Cmp.{nat_cmp_is}
use Rattle.std.specs.Cmp.Lexicographic.{slice_cmp}
use Rattle.std.specs.Ordering.{nat_cmp, is_gt, is_eq, ordering_then}
use Rattle.std.specs.declared.cmp.Ordering.TheVariants.{Less, Equal}
use Rattle.std.proofs.lemmas.Bool.{le-leb}
use Rattle.std.proofs.lemmas.Bool.Decides.{nat_tests}
use Rattle.std.proofs.lemmas.Option.{slice_get_cases}
use Rattle.wal_index.specs.declared.by_number.Numbered.{Numbered}
use Rattle.wal_index.specs.Index.{Map, has_number, is_past_number, IsNearestNumber}
use Rattle.wal_index.specs.Numbers.{number_cmp, numbers_at, mark_of, marks, holds, AreNumbersSorted, stands_before, IsNumberBorder, StandsAt, IsNearestMark}
use Rattle.wal_index.proofs.ByNumber.{held_at, same_at}
use Rattle.wal_index.proofs.Marks.{same_number}
use Rattle.wal_index.proofs.NextEntry.{not_below, le_or_gt}
use Rattle.wal_index.proofs.Placed.{le_cases}
use Rattle.wal_index.proofs.Sorted.{rising}

-- ---- tests

-- in its own store a number stands before by the number alone
own_store : (s : ℕ) (b : Bool) → (nat_lt s s || ((s == s) && b)) ≡ b
own_store s b = grind (arith, nat_tests)

turned : (with : Bool) (q n : ℕ) → ((with && (q == n)) || nat_lt q n) ≡ not ((not with && (q == n)) || nat_lt n q)
turned true q n = grind (arith, nat_tests)
turned false q n = grind (arith, nat_tests)

up_past : (with : Bool) (store seq n : ℕ) (key : List ℕ) → is_past_number with true seq n ≡ not (stands_before (not with) store seq (numbers_at store n key))
up_past with store seq n key = turned with seq n ∙ ap not (sym (own_store store (is_past_number (not with) false seq n)))

down_past : (with : Bool) (store seq n : ℕ) (key : List ℕ) → is_past_number with false seq n ≡ stands_before with store seq (numbers_at store n key)
down_past with store seq n key = sym (own_store store (is_past_number with false seq n))

-- what stands before is of no higher store, and the other numbers of no lower one
before_store : (through : Bool) (store seq : ℕ) (n : Numbered) → stands_before through store seq n ≡ true → n.store ≤ store
before_store through store seq n h = grind (arith, nat_tests)

behind_store : (through : Bool) (store seq : ℕ) (n : Numbered) → stands_before through store seq n ≡ false → store ≤ n.store
behind_store through store seq n h = grind (arith, nat_tests)

-- ---- order

less_store : (a b : Numbered) → number_cmp a b ≡ Less → a.store ≤ b.store
less_store a b h = not_below a.store b.store (ordering_then (nat_cmp a.seq b.seq) (slice_cmp nat_cmp a.key b.key)) (ap is_gt h)

less_seq : (a b : Numbered) → number_cmp a b ≡ Less → a.store ≡ b.store → a.seq ≤ b.seq
less_seq a b h same =
    let tied = nat_cmp_is a.store b.store Equal same in
    not_below a.seq b.seq (slice_cmp nat_cmp a.key b.key) (ap (λ o. is_gt (ordering_then o (ordering_then (nat_cmp a.seq b.seq) (slice_cmp nat_cmp a.key b.key)))) tied ∙ ap is_gt h)

-- what is lower than a number that stands before stands before too
before_too : (t : Bool) (store q s n r m : ℕ) → s ≤ r → (s ≡ r → n ≤ m) → (nat_lt r store || ((r == store) && ((t && (q == m)) || nat_lt m q))) ≡ true → (nat_lt s store || ((s == store) && ((t && (q == n)) || nat_lt n q))) ≡ true
before_too true store q s n r m stores numbers h = grind (arith, nat_tests)
before_too false store q s n r m stores numbers h = grind (arith, nat_tests)

-- ---- places

pub place_of : (numbers : List (Box Numbered)) (k : Numbered) → holds (marks numbers) k ≡ true → (j : ℕ) × StandsAt numbers j k
place_of [] k h = cc
place_of (a ∷ numbers) k h = elim (is_eq (number_cmp k a.value)) as (λ b. is_eq (number_cmp k a.value) ≡ b → (j : ℕ) × StandsAt (a ∷ numbers) j k) [
  | true ↦ λ t. (0, record { within = omega arith; here = λ d. sym (same_number k a.value t) })
  | false ↦ λ t.
      let rest : (j : ℕ) × StandsAt numbers j k = place_of numbers k (ap (λ b. is_some (cond b (Some tt) (finite.find number_cmp k (marks numbers)))) (sym t) ∙ h) in
      let within : rest.0 < length numbers = rest.1.within in
      (suc rest.0, record { within = omega arith; here = rest.1.here })
] refl

module _ (numbers : List (Box Numbered)) (sorted : AreNumbersSorted numbers) where
  pub is_held : (i : ℕ) (n : Numbered) → StandsAt numbers i n → holds (marks numbers) n ≡ true
  is_held i n at = elim (slice_get_cases numbers i).1 [
    | inl there ↦ subst (λ (k : Numbered). holds (marks numbers) k ≡ true) (ap (λ (b : Box Numbered). b.value) (sym there.3) ∙ at.here there.0) (held_at numbers sorted i there.0 there.1 (sym there.3))
    | inr past ↦ absurd (let le : length numbers ≤ i = past.0 in let l : i < length numbers = at.within in omega arith)
  ]

  ordered : (i j : ℕ) (a b : Numbered) → StandsAt numbers i a → StandsAt numbers j b → i < j → number_cmp a b ≡ Less
  ordered i j a b at bt l = elim (slice_get_cases numbers i).1 [
    | inl there ↦ ap (λ (n : Numbered). number_cmp n b) (sym (at.here there.0)) ∙ ap (number_cmp (get_or numbers i there.0).value) (sym (bt.here there.0)) ∙ rising number_cmp mark_of numbers sorted i j there.0 l bt.within
    | inr past ↦ absurd (let le : length numbers ≤ i = past.0 in let l : i < length numbers = at.within in omega arith)
  ]

  same_place : (i j : ℕ) (a b : Numbered) → StandsAt numbers i a → StandsAt numbers j b → i ≡ j → a ≡ b
  same_place i j a b at bt e = elim (slice_get_cases numbers i).1 [
    | inl there ↦ sym (at.here there.0) ∙ ap (λ (k : ℕ). (get_or numbers k there.0).value) e ∙ bt.here there.0
    | inr past ↦ absurd (let le : length numbers ≤ i = past.0 in let l : i < length numbers = at.within in omega arith)
  ]

  -- some number stands at each place
  there_is : (i : ℕ) → i < length numbers → (n : Numbered) × StandsAt numbers i n
  there_is i l = elim (slice_get_cases numbers i).1 [
    | inl there ↦ (there.0.value, record { within = l; here = λ d. ap (λ (b : Box Numbered). b.value) (same_at numbers i d there.0 l ∙ there.3) })
    | inr past ↦ absurd (let le : length numbers ≤ i = past.0 in omega arith)
  ]

  -- how the tests at a number's place read at the number
  before_at : (through : Bool) (store seq n : ℕ) → IsNumberBorder through store seq numbers n → (j : ℕ) (k : Numbered) → StandsAt numbers j k → j < n → stands_before through store seq k ≡ true
  before_at through store seq n border j k at l = elim (slice_get_cases numbers j).1 [
    | inl there ↦ ap (stands_before through store seq) (sym (at.here there.0)) ∙ border.before j there.0 l
    | inr past ↦ absurd (let le : length numbers ≤ j = past.0 in let m : j < length numbers = at.within in omega arith)
  ]

  behind_at : (through : Bool) (store seq n : ℕ) → IsNumberBorder through store seq numbers n → (j : ℕ) (k : Numbered) → StandsAt numbers j k → n ≤ j → stands_before through store seq k ≡ false
  behind_at through store seq n border j k at l = elim (slice_get_cases numbers j).1 [
    | inl there ↦ ap (stands_before through store seq) (sym (at.here there.0)) ∙ border.behind j there.0 l at.within
    | inr past ↦ absurd (let le : length numbers ≤ j = past.0 in let m : j < length numbers = at.within in omega arith)
  ]

  -- numbers of one store rise with their places
  seqs_rise : (i j : ℕ) (a b : Numbered) → StandsAt numbers i a → StandsAt numbers j b → i ≤ j → a.store ≡ b.store → a.seq ≤ b.seq
  seqs_rise i j a b at bt l same = elim (le_cases i j l) [
    | inl less ↦ less_seq a b (ordered i j a b at bt less) same
    | inr e ↦ let is = ap (λ (k : Numbered). k.seq) (same_place i j a b at bt e) in omega arith
  ]

  pub partitioned : (through : Bool) (store seq : ℕ) (i j : ℕ) (d : Box Numbered) → i ≤ j → j < length numbers → stands_before through store seq (get_or numbers j d).value ≡ true → stands_before through store seq (get_or numbers i d).value ≡ true
  partitioned through store seq i j d l m h = elim (le_cases i j l) [
    | inl less ↦
        let a = (get_or numbers i d).value in
        let b = (get_or numbers j d).value in
        let lower : number_cmp a b ≡ Less = rising number_cmp mark_of numbers sorted i j d less m in
        before_too through store seq a.store a.seq b.store b.seq (less_store a b lower) (less_seq a b lower) h
    | inr e ↦ ap (λ (k : ℕ). stands_before through store seq (get_or numbers k d).value) e ∙ h
  ]

  -- ---- upwards

  module _ (with : Bool) (store seq n : ℕ) (border : IsNumberBorder (not with) store seq numbers n) where
    up_before : (j m : ℕ) (key : List ℕ) → StandsAt numbers j (numbers_at store m key) → j < n → is_past_number with true seq m ≡ false
    up_before j m key at l = up_past with store seq m key ∙ ap not (before_at (not with) store seq n border j (numbers_at store m key) at l)

    pub up_found : (m : ℕ) (key : List ℕ) → StandsAt numbers n (numbers_at store m key) → IsNearestMark with true (marks numbers) store seq m key
    up_found m key at = record {
      held = is_held n (numbers_at store m key) at;
      past = up_past with store seq m key ∙ ap not (behind_at (not with) store seq n border n (numbers_at store m key) at (omega arith));
      nearest = λ other k h p.
          let place : (j : ℕ) × StandsAt numbers j (numbers_at store other k) = place_of numbers (numbers_at store other k) h in
          elim (le_or_gt n place.0) [
            | inl l ↦ let le : m ≤ other = seqs_rise n place.0 (numbers_at store m key) (numbers_at store other k) at place.1 l refl in le-leb m other le
            | inr l ↦ let wrong : true ≡ false = sym p ∙ up_before place.0 other k place.1 l in cc
          ];
    }

    pub up_absent : ((v : Numbered) → StandsAt numbers n v → v.store ≡ store → ⊥) → (m : ℕ) (key : List ℕ) → holds (marks numbers) (numbers_at store m key) ≡ true → is_past_number with true seq m ≡ false
    up_absent apart m key h =
        let place : (j : ℕ) × StandsAt numbers j (numbers_at store m key) = place_of numbers (numbers_at store m key) h in
        elim (le_or_gt n place.0) [
          | inl l ↦ elim (le_cases n place.0 l) [
            | inl less ↦
                let j : ℕ = place.0 in
                let within : j < length numbers = place.1.within in
                let here : (v : Numbered) × StandsAt numbers n v = there_is n (omega arith) in
                let low : store ≤ here.0.store = behind_store (not with) store seq here.0 (behind_at (not with) store seq n border n here.0 here.1 (omega arith)) in
                let high : here.0.store ≤ store = less_store here.0 (numbers_at store m key) (ordered n place.0 here.0 (numbers_at store m key) here.1 place.1 less) in
                absurd (apart here.0 here.1 (omega arith))
            | inr e ↦ absurd (apart (numbers_at store m key) (subst (λ (k : ℕ). StandsAt numbers k (numbers_at store m key)) (sym e) place.1) refl)
          ]
          | inr l ↦ up_before place.0 m key place.1 l
        ]

  -- ---- downwards

  module _ (with : Bool) (store seq n : ℕ) (border : IsNumberBorder with store seq numbers (n + 1)) where
    down_behind : (j m : ℕ) (key : List ℕ) → StandsAt numbers j (numbers_at store m key) → n + 1 ≤ j → is_past_number with false seq m ≡ false
    down_behind j m key at l = down_past with store seq m key ∙ behind_at with store seq (n + 1) border j (numbers_at store m key) at l

    pub down_found : (m : ℕ) (key : List ℕ) → StandsAt numbers n (numbers_at store m key) → IsNearestMark with false (marks numbers) store seq m key
    down_found m key at = record {
      held = is_held n (numbers_at store m key) at;
      past = down_past with store seq m key ∙ before_at with store seq (n + 1) border n (numbers_at store m key) at (omega arith);
      nearest = λ other k h p.
          let place : (j : ℕ) × StandsAt numbers j (numbers_at store other k) = place_of numbers (numbers_at store other k) h in
          elim (le_or_gt (n + 1) place.0) [
            | inl l ↦ let wrong : true ≡ false = sym p ∙ down_behind place.0 other k place.1 l in cc
            | inr l ↦
                let j : ℕ = place.0 in
                let le : other ≤ m = seqs_rise place.0 n (numbers_at store other k) (numbers_at store m key) place.1 at (omega arith) refl in
                le-leb other m le
          ];
    }

    pub down_absent : ((v : Numbered) → StandsAt numbers n v → v.store ≡ store → ⊥) → (m : ℕ) (key : List ℕ) → holds (marks numbers) (numbers_at store m key) ≡ true → is_past_number with false seq m ≡ false
    down_absent apart m key h =
        let place : (j : ℕ) × StandsAt numbers j (numbers_at store m key) = place_of numbers (numbers_at store m key) h in
        let bound : n + 1 ≤ length numbers = border.within in
        elim (le_or_gt (n + 1) place.0) [
          | inl l ↦ down_behind place.0 m key place.1 l
          | inr l ↦ elim (le_cases place.0 n (let j : ℕ = place.0 in omega arith)) [
            | inl less ↦
                let here : (v : Numbered) × StandsAt numbers n v = there_is n (omega arith) in
                let high : here.0.store ≤ store = before_store with store seq here.0 (before_at with store seq (n + 1) border n here.0 here.1 (omega arith)) in
                let low : store ≤ here.0.store = less_store (numbers_at store m key) here.0 (ordered place.0 n (numbers_at store m key) here.0 place.1 here.1 less) in
                absurd (apart here.0 here.1 (omega arith))
            | inr e ↦ absurd (apart (numbers_at store m key) (subst (λ (k : ℕ). StandsAt numbers k (numbers_at store m key)) e place.1) refl)
          ]
        ]

  pub down_none : (with : Bool) (store seq : ℕ) → IsNumberBorder with store seq numbers 0 → (m : ℕ) (key : List ℕ) → holds (marks numbers) (numbers_at store m key) ≡ true → is_past_number with false seq m ≡ false
  down_none with store seq border m key h =
      let place : (j : ℕ) × StandsAt numbers j (numbers_at store m key) = place_of numbers (numbers_at store m key) h in
      down_past with store seq m key ∙ behind_at with store seq 0 border place.0 (numbers_at store m key) place.1 (omega arith)

-- ---- what numbers say of entries

pub nearest_told : (m : Map) (ns : List (Numbered × Unit {0})) (with up : Bool) (store seq n : ℕ) (key : List ℕ) → ((number : ℕ) (k : List ℕ) → has_number m store number k ≡ holds ns (numbers_at store number k))
    → IsNearestMark with up ns store seq n key → IsNearestNumber with up m store seq n key
nearest_told m ns with up store seq n key told mark = record {
  has = told n key ∙ mark.held;
  past = mark.past;
  nearest = λ other k h p. mark.nearest other k (sym (told other k) ∙ h) p;
}
