-- Chunk lists stand in the order of their keys.
use Rattle.std.proofs.Common.{◌≡◌, ℕ, zero, suc, ◌+◌, ◌-◌, ◌*◌, ◌/◌, ◌<◌, ◌≤◌, List, [], ◌∷◌, length, drop, nat_cmp, Ordering, Less, Equal, Greater, refl, sym, ap, ◌∙◌, arith, length-drop}
use Rattle.std.specs.Int.{w64, from_be_bytes}
use Rattle.std.specs.Ordering.{ordering_then}
use Rattle.std.specs.Cmp.Lexicographic.{slice_cmp}
use Rattle.std.proofs.lemmas.List.{drop_all}
use Rattle.key_chunks.specs.Chunks.{first_chunk, groups, groups_of, chunks_of, IsKey}
use Rattle.key_chunks.proofs.Horner.{AreBytes, valued, valued_order, number_valued}
use Rattle.key_chunks.proofs.Windows.{window, length_window, small_window, group_window, windows}

chunk_valued : (x : List ℕ) → first_chunk x ≡ valued 0 (window 7 0 x)
unfolding first_chunk
chunk_valued x = ap (λ (bytes : List ℕ). from_be_bytes w64 bytes) (group_window x) ∙ number_valued (window 7 0 x) (length_window 7 0 x)

first_order : (x y : List ℕ) → AreBytes x → AreBytes y → nat_cmp (first_chunk x) (first_chunk y) ≡ slice_cmp nat_cmp (window 7 0 x) (window 7 0 y)
first_order x y small small' =
    rw (chunk_valued x, chunk_valued y)
    (valued_order (window 7 0 x) (window 7 0 y) 0 0 (length_window 7 0 x ∙ sym (length_window 7 0 y)) (small_window 7 0 x (omega arith) small) (small_window 7 0 y (omega arith) small'))

-- so many groups follow the first
pub record Cut (more : ℕ) (key : List ℕ) : Type 0 where
  pub above : 7 * more < length key
  pub upto : length key ≤ 7 * more + 7

pub cut_of : (key : List ℕ) → 1 ≤ length key → Cut ((length key - 1) / 7) key
cut_of key some = record { above = omega arith; upto = omega arith }

pub cut_rest : (more : ℕ) (key : List ℕ) → Cut (suc more) key → Cut more (drop 7 key)
cut_rest more key cut = record { above = omega (arith, length-drop 7 key); upto = omega (arith, length-drop 7 key) }

pub small_rest : (n : ℕ) (key : List ℕ) → AreBytes key → AreBytes (drop n key)
small_rest zero key small = small
small_rest (suc n) [] small = small
small_rest (suc n) (b ∷ bs) small = small_rest n bs small.1

last_rest : (key : List ℕ) → Cut 0 key → drop 7 key ≡ []
last_rest key cut = drop_all 7 key (omega arith)

-- nothing stands before something
before_some : (ys : List ℕ) → 0 < length ys → slice_cmp nat_cmp [] ys ≡ Less
before_some [] some = absurd (omega arith)
before_some (y ∷ ys) some = refl

behind_none : (xs : List ℕ) → 0 < length xs → slice_cmp nat_cmp xs [] ≡ Greater
behind_none [] some = absurd (omega arith)
behind_none (x ∷ xs) some = refl

some_groups : (more : ℕ) (key : List ℕ) → 0 < length (groups more key)
unfolding groups
some_groups zero key = omega arith
some_groups (suc more) key = omega arith

-- so many groups have one chunk each
count_groups : (n : ℕ) (x : List ℕ) → length (groups n x) ≡ suc n
unfolding groups
count_groups zero x = refl
count_groups (suc n) x = ap suc (count_groups n (drop 7 x))

pub list_long : (store : ℕ) (key : List ℕ) → 1 ≤ length key → length (chunks_of store key) ≡ 1 + (length key + 6) / 7
list_long store key some = omega (arith, count_groups ((length key - 1) / 7) key)

pub list_short : (list key : List ℕ) → length key ≤ 3500 → length list ≡ 1 + (length key + 6) / 7 → length list ≤ 501
list_short list key few is = omega (arith, is)

step : (x y : List ℕ) (rest : Ordering) → AreBytes x → AreBytes y → rest ≡ slice_cmp nat_cmp (drop 7 x) (drop 7 y) → ordering_then (nat_cmp (first_chunk x) (first_chunk y)) rest ≡ slice_cmp nat_cmp x y
step x y rest small small' is = rw (first_order x y small small', is) (windows 7 0 x y)

pub groups_order : (n m : ℕ) (x y : List ℕ) → Cut n x → Cut m y → AreBytes x → AreBytes y → slice_cmp nat_cmp (groups n x) (groups m y) ≡ slice_cmp nat_cmp x y
unfolding groups
groups_order zero zero x y cut cut' small small' =
    step x y Equal small small' (rw (last_rest x cut, last_rest y cut') refl)
groups_order zero (suc m) x y cut cut' small small' =
    let some : 0 < length (drop 7 y) = omega (arith, length-drop 7 y, cut'.above) in
    step x y (slice_cmp nat_cmp [] (groups m (drop 7 y))) small small' (before_some (groups m (drop 7 y)) (some_groups m (drop 7 y)) ∙ rw (last_rest x cut) (sym (before_some (drop 7 y) some)))
groups_order (suc n) zero x y cut cut' small small' =
    let some : 0 < length (drop 7 x) = omega (arith, length-drop 7 x, cut.above) in
    step x y (slice_cmp nat_cmp (groups n (drop 7 x)) []) small small' (behind_none (groups n (drop 7 x)) (some_groups n (drop 7 x)) ∙ rw (last_rest y cut') (sym (behind_none (drop 7 x) some)))
groups_order (suc n) (suc m) x y cut cut' small small' =
    step x y (slice_cmp nat_cmp (groups n (drop 7 x)) (groups m (drop 7 y))) small small'
    (groups_order n m (drop 7 x) (drop 7 y) (cut_rest n x cut) (cut_rest m y cut') (small_rest 7 x small) (small_rest 7 y small'))

pub lists_order : (s t : ℕ) (x y : List ℕ) → IsKey x → IsKey y → slice_cmp nat_cmp (chunks_of s x) (chunks_of t y) ≡ ordering_then (nat_cmp s t) (slice_cmp nat_cmp x y)
lists_order s t x y key key' =
    ap (λ (o : Ordering). ordering_then (nat_cmp s t) o)
    (groups_order ((length x - 1) / 7) ((length y - 1) / 7) x y (cut_of x key.has_length.0) (cut_of y key'.has_length.0) key.bytes key'.bytes)

-- ---- one group at a time

pub groups_more : (key : List ℕ) → 7 < length key → groups_of key ≡ first_chunk key ∷ groups_of (drop 7 key)
unfolding groups
groups_more key more =
    let e : (length key - 1) / 7 ≡ suc ((length (drop 7 key) - 1) / 7) = omega (arith, length-drop 7 key) in
    ap (λ (n : ℕ). groups n key) e

pub groups_last : (key : List ℕ) → length key ≤ 7 → groups_of key ≡ first_chunk key ∷ []
unfolding groups
groups_last key last =
    let e : (length key - 1) / 7 ≡ 0 = omega arith in
    ap (λ (n : ℕ). groups n key) e
