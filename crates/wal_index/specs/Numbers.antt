-- Numbers of newest entries, in the order of store, number and key.
use Rattle.std.specs.Prelude.{◌≡◌, ℕ, ◌<◌, ◌≤◌, Bool, true, false, ◌&&◌, ◌||◌, List, length, slice_index_or, map, filter, T, Option, Some, None, is_some, not, ◌==◌, if◌then◌else◌, IsTrue, nat_lt, nat_le}
use Rattle.std.specs.Global.{Box}
use Rattle.std.specs.Option.{option_map_or}
use Rattle.std.specs.Ordering.{nat_cmp, ordering_then, is_eq, is_gt}
use Rattle.std.specs.Cmp.Lexicographic.{slice_cmp}
use Rattle.std.specs.FinMap as finite
use Rattle.std.specs.declared.cmp.Ordering.{Ordering}
use Rattle.std.specs.declared.cmp.Ordering.TheVariants.{Greater}
use Rattle.forest_model.specs.Key.{key_cmp}
use Rattle.forest_model.specs.declared.documents.DocKey.{DocKey}
use Rattle.forest_model.specs.declared.stored.Entry.{Entry}
use Rattle.wal_index.specs.declared.by_number.Numbered.{Numbered}
use Rattle.wal_index.specs.Index.{key_at, is_past_number}

-- by store, then by number, then by key
abbrev pub number_cmp : Numbered → Numbered → Ordering
number_cmp a b = ordering_then (nat_cmp a.store b.store) (ordering_then (nat_cmp a.seq b.seq) (slice_cmp nat_cmp a.key b.key))

abbrev pub numbers_at : ℕ → ℕ → List ℕ → Numbered
numbers_at store seq key = record { store = store; seq = seq; key = key }

abbrev pub mark_of : Box Numbered → Numbered × Unit {0}
mark_of n = (n.value, tt)

abbrev pub number_of : Box Numbered → Numbered
number_of n = n.value

abbrev pub marks : List (Box Numbered) → List (Numbered × Unit {0})
marks = map mark_of

abbrev pub AreNumbersSorted : List (Box Numbered) → Type 0
AreNumbersSorted numbers = T (finite.is_sorted number_cmp (marks numbers))

-- whether n is among these
abbrev pub holds : List (Numbered × Unit {0}) → Numbered → Bool
holds ns n = is_some (finite.find number_cmp n ns)

-- whether the newest entry of n's key has n's number
abbrev pub has : List (DocKey × Entry) → Numbered → Bool
has es n = option_map_or (λ e. e.seq == n.seq) (finite.find key_cmp (key_at n.store n.key) es) false

-- the numbers are those of the newest entries
abbrev pub Agree : List (DocKey × Entry) → List (Numbered × Unit {0}) → Type 0
Agree es ns = (n : Numbered) → holds ns n ≡ has es n

-- without the number of the entry before, if there was one
abbrev pub without_older : Option Entry → ℕ → List ℕ → List (Numbered × Unit {0}) → List (Numbered × Unit {0})
without_older None store key ns = ns
without_older (Some e) store key ns = filter (λ m. not (is_eq (number_cmp (numbers_at store e.seq key) m.0))) ns

-- the first n numbers are lower than q, and the others are not
pub record IsStart (q : Numbered) (numbers : List (Box Numbered)) (n : ℕ) : Type 0 where
  pub within : n ≤ length numbers
  pub before : (j : ℕ) (d : Box Numbered) → j < n → number_cmp q (slice_index_or numbers j d).value ≡ Greater
  pub behind : (j : ℕ) (d : Box Numbered) → n ≤ j → j < length numbers → is_gt (number_cmp q (slice_index_or numbers j d).value) ≡ false

-- ---- in order

-- whether n stands before the numbers of the store that a search upwards from seq comes to; `through` has seq itself stand there too
abbrev pub stands_before : Bool → ℕ → ℕ → Numbered → Bool
stands_before through store seq n = nat_lt n.store store || ((n.store == store) && is_past_number through false seq n.seq)

-- the first n numbers stand before, and the others do not
pub record IsNumberBorder (through : Bool) (store seq : ℕ) (numbers : List (Box Numbered)) (n : ℕ) : Type 0 where
  pub within : n ≤ length numbers
  pub before : (j : ℕ) (d : Box Numbered) → j < n → stands_before through store seq (slice_index_or numbers j d).value ≡ true
  pub behind : (j : ℕ) (d : Box Numbered) → n ≤ j → j < length numbers → stands_before through store seq (slice_index_or numbers j d).value ≡ false

-- n stands at a place
pub record StandsAt (numbers : List (Box Numbered)) (at : ℕ) (n : Numbered) : Type 0 where
  pub within : at < length numbers
  pub here : (d : Box Numbered) → (slice_index_or numbers at d).value ≡ n

-- of the numbers of the store among these, the one that a search from seq comes to first
pub record IsNearestMark (with up : Bool) (ns : List (Numbered × Unit {0})) (store seq n : ℕ) (key : List ℕ) : Type 0 where
  pub held : holds ns (numbers_at store n key) ≡ true
  pub past : is_past_number with up seq n ≡ true
  pub nearest : (other : ℕ) (k : List ℕ) → holds ns (numbers_at store other k) ≡ true → is_past_number with up seq other ≡ true → IsTrue (if up then nat_le n other else nat_le other n)
