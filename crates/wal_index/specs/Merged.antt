-- Two lists of entries in the order of their keys, seen as one.
use Rattle.std.specs.Prelude.{◌≡◌, ℕ, ◌≤◌, Bool, true, List, [], ◌∷◌, ◌++◌, length, Option, Some, None, is_some, if◌then◌else◌}
use Rattle.std.specs.Global.{Box}
use Rattle.std.specs.Ordering.{is_lt, is_gt}
use Rattle.std.specs.FinMap as finite
use Rattle.std.specs.declared.cmp.Ordering.{Ordering}
use Rattle.forest_model.specs.Key.{key_cmp}
use Rattle.forest_model.specs.declared.documents.DocKey.{DocKey}
use Rattle.forest_model.specs.declared.stored.Entry.{Entry}
use Rattle.forest_model.specs.declared.stored.KeyEntry.{KeyEntry}
use Rattle.wal_index.specs.Places.{IsGap}
use Rattle.wal_index.specs.Rows.{key_of, pairs, AreSorted}

-- the first entries, with the others put among them
abbrev pub merged : {K X : Type 0} → (K → K → Ordering) → List (K × X) → List (K × X) → List (K × X)
merged R es [] = es
merged R es (f ∷ fs) = finite.put R f.0 f.1 (merged R es fs)

-- no key is in both
abbrev pub AreApart : {K X : Type 0} → (K → K → Ordering) → List (K × X) → List (K × X) → Type 0
AreApart {K} R es fs = (q : K) → is_some (finite.find R q es) ≡ true → is_some (finite.find R q fs) ≡ true → ⊥

-- the one that a search upwards, or downwards, comes to first
abbrev pub nearer : {K X : Type 0} → (K → K → Ordering) → Bool → Option (K × X) → Option (K × X) → Option (K × X)
nearer R up None b = b
nearer R up (Some a) None = Some a
nearer R up (Some a) (Some b) = if (if up then is_lt (R a.0 b.0) else is_gt (R a.0 b.0)) then Some a else Some b

-- the entries of the settled rows and the recent ones
abbrev pub all_pairs : List (Box KeyEntry) → List (Box KeyEntry) → List (DocKey × Entry)
all_pairs settled recent = merged key_cmp (pairs settled) (pairs recent)

-- each list is in order, and no key is in both
pub record AreRows (settled recent : List (Box KeyEntry)) : Type 0 where
  pub first_sorted : AreSorted settled
  pub second_sorted : AreSorted recent
  pub apart : AreApart key_cmp (pairs settled) (pairs recent)

-- the first n settled rows have lower keys than the last recent one, and the others have higher ones
pub record IsBelowLast (settled recent : List (Box KeyEntry)) (n : ℕ) : Type 0 where
  pub within : n ≤ length settled
  pub parted : (front : List (Box KeyEntry)) (last : Box KeyEntry) → recent ≡ front ++ last ∷ [] → IsGap key_cmp key_of (key_of last) settled n
