-- Places in a list in the order of its keys.
use Rattle.std.specs.Prelude.{◌≡◌, ℕ, ◌<◌, ◌≤◌, ◌+◌, List, length, slice_index_or}
use Rattle.std.specs.declared.cmp.Ordering.{Ordering}
use Rattle.std.specs.declared.cmp.Ordering.TheVariants.{Less, Equal, Greater}

-- the elements before a place have lower keys than q, and those from another place on higher ones
pub record IsBetween {A K : Type 0} (R : K → K → Ordering) (key : A → K) (q : K) (xs : List A) (low high : ℕ) : Type 0 where
  pub before : (j : ℕ) (d : A) → j < low → R q (key (slice_index_or xs j d)) ≡ Greater
  pub behind : (j : ℕ) (d : A) → high ≤ j → j < length xs → R q (key (slice_index_or xs j d)) ≡ Less

-- the element of q stands at a place
pub record IsAt {A K : Type 0} (R : K → K → Ordering) (key : A → K) (q : K) (xs : List A) (i : ℕ) : Type 0 where
  pub within : i < length xs
  pub here : (d : A) → R q (key (slice_index_or xs i d)) ≡ Equal
  pub around : IsBetween R key q xs i (i + 1)

-- the element of q would stand at a place
pub record IsGap {A K : Type 0} (R : K → K → Ordering) (key : A → K) (q : K) (xs : List A) (i : ℕ) : Type 0 where
  pub within : i ≤ length xs
  pub around : IsBetween R key q xs i i
