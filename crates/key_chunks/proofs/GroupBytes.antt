-- What a chunk has of its key, and that a chunk list gives its key back and goes on from no other.
use Rattle.std.proofs.Common.{◌≡◌, ℕ, zero, suc, ◌+◌, ◌-◌, ◌*◌, ◌/◌, ◌^◌, ◌<◌, ◌≤◌, min, true, false, true≢false, List, [], ◌∷◌, ◌++◌, length, get_or, take, drop, refl, sym, ap, ◌∙◌, arith, append-nil, take_all, take-append-drop, length-take, length-append}
use Rattle.std.specs.Int.{w64, from_be_bytes, to_be_bytes}
use Rattle.std.specs.Prelude.{nat_eq}
use Rattle.std.specs.List.{flat_map}
use Rattle.std.specs.Cmp.Lexicographic.{pointwise}
use Rattle.std.proofs.lemmas.Slice.Eq.{bytes_eq-Decides}
use Rattle.std.proofs.lemmas.Bool.Decides.{nat_tests}
use Rattle.std.proofs.lemmas.List.{take_min}
use Rattle.std.proofs.lemmas.Nat.{be_bytes_8}
use Rattle.key_chunks.specs.Chunks.{first_chunk, groups, groups_of, chunks_of, bytes_in, IsKey, IsChunkList}
use Rattle.key_chunks.proofs.Horner.{AreBytes}
use Rattle.key_chunks.proofs.Windows.{window, length_window, small_window, group_window}
use Rattle.key_chunks.proofs.GroupOrder.{Cut, cut_of, cut_rest, small_rest}

small_read : (bs : List ℕ) → AreBytes bs → (i : ℕ) → get_or bs i 0 < 256
small_read [] small i = omega arith
small_read (b ∷ bs) small zero = small.0
small_read (b ∷ bs) small (suc i) = small_read bs small.1 i

to_window : (x : List ℕ) → AreBytes x → to_be_bytes w64 (first_chunk x) ≡ window 7 0 x
unfolding first_chunk
to_window x small =
    be_bytes_8 (window 7 0 x) (first_chunk x) (length_window 7 0 x) (small_read (window 7 0 x) (small_window 7 0 x (omega arith) small)) (ap (λ (bytes : List ℕ). from_be_bytes w64 bytes) (group_window x))

count_at : (k seen : ℕ) (key : List ℕ) → get_or (window k seen key) k 0 ≡ seen + min (length key) (suc k)
count_at zero seen [] = omega arith
count_at zero seen (b ∷ bs) = omega arith
count_at (suc k) seen [] = count_at k seen [] ∙ omega arith
count_at (suc k) seen (b ∷ bs) = count_at k (seen + 1) bs ∙ omega arith

taken : (n k seen : ℕ) (key : List ℕ) → n ≤ k → n ≤ length key → take n (window k seen key) ≡ take n key
taken zero k seen key within short = refl
taken (suc n) zero seen key within short = absurd (omega arith)
taken (suc n) (suc k) seen [] within short = absurd (omega arith)
taken (suc n) (suc k) seen (b ∷ bs) within short = ap (λ (r : List ℕ). b ∷ r) (taken n k (seen + 1) bs (omega arith) (omega arith))

chunk_bytes : (x : List ℕ) → AreBytes x → bytes_in (first_chunk x) ≡ take 7 x
unfolding bytes_in
chunk_bytes x small =
    let n = min (0 + min (length x) 8) 7 in
    let e : n ≡ min 7 (length x) = omega arith in
    ap (λ (bytes : List ℕ). take (min (get_or bytes 7 0) 7) bytes) (to_window x small)
    ∙ ap (λ (count : ℕ). take (min count 7) (window 7 0 x)) (count_at 7 0 x)
    ∙ taken n 7 0 x (omega arith) (omega arith)
    ∙ ap (λ (k : ℕ). take k x) e
    ∙ take_min 7 x

pub groups_read : (more : ℕ) (x : List ℕ) → Cut more x → AreBytes x → flat_map bytes_in (groups more x) ≡ x
unfolding groups
groups_read zero x cut small = append-nil (bytes_in (first_chunk x)) ∙ chunk_bytes x small ∙ take_all 7 x (omega arith)
groups_read (suc more) x cut small =
    rw (chunk_bytes x small, groups_read more (drop 7 x) (cut_rest more x cut) (small_rest 7 x small)) (take-append-drop 7 x)

pub length_groups : (more : ℕ) (x : List ℕ) → length (groups more x) ≡ suc more
unfolding groups
length_groups zero x = refl
length_groups (suc more) x = omega (arith, length_groups more (drop 7 x))

pub key_read : (x : List ℕ) → IsKey x → flat_map bytes_in (groups_of x) ≡ x
key_read x key = groups_read ((length x - 1) / 7) x (cut_of x key.has_length.0) key.bytes

pub one_list : (s t : ℕ) (x y : List ℕ) → IsKey x → IsKey y → chunks_of s x ≡ chunks_of t y → (s ≡ t) × (x ≡ y)
one_list s t x y key key' e =
    (ap (λ (l : List ℕ). get_or l 0 0) e, sym (key_read x key) ∙ ap (λ (l : List ℕ). flat_map bytes_in (drop 1 l)) e ∙ key_read y key')

-- ---- no list goes on from another

same_count : (x y : List ℕ) → AreBytes x → AreBytes y → first_chunk x ≡ first_chunk y → min (length x) 8 ≡ min (length y) 8
same_count x y small small' e =
    let windows : window 7 0 x ≡ window 7 0 y = sym (to_window x small) ∙ ap (λ (n : ℕ). to_be_bytes w64 n) e ∙ to_window y small' in
    let counts : get_or (window 7 0 x) 7 0 ≡ get_or (window 7 0 y) 7 0 = ap (λ (w : List ℕ). get_or w 7 0) windows in
    omega (arith, counts, count_at 7 0 x, count_at 7 0 y)

none_behind : (n m : ℕ) (x y more : List ℕ) → Cut n x → Cut m y → AreBytes x → AreBytes y → groups n x ++ more ≡ groups m y → more ≡ []
unfolding groups
none_behind zero zero x y more cut cut' small small' e = ap (λ (l : List ℕ). drop 1 l) e
none_behind zero (suc m) x y more cut cut' small small' e = absurd (omega (arith, cut.upto, cut'.above, same_count x y small small' (ap (λ (l : List ℕ). get_or l 0 0) e)))
none_behind (suc n) zero x y more cut cut' small small' e = absurd (omega (arith, cut.above, cut'.upto, same_count x y small small' (ap (λ (l : List ℕ). get_or l 0 0) e)))
none_behind (suc n) (suc m) x y more cut cut' small small' e =
    none_behind n m (drop 7 x) (drop 7 y) more (cut_rest n x cut) (cut_rest m y cut') (small_rest 7 x small) (small_rest 7 y small') (ap (λ (l : List ℕ). drop 1 l) e)

pub no_longer_list : (s t : ℕ) (x y more : List ℕ) → IsKey x → IsKey y → chunks_of s x ++ more ≡ chunks_of t y → more ≡ []
no_longer_list s t x y more key key' e =
    none_behind ((length x - 1) / 7) ((length y - 1) / 7) x y more (cut_of x key.has_length.0) (cut_of y key'.has_length.0) key.bytes key'.bytes (ap (λ (l : List ℕ). drop 1 l) e)

-- ---- what the reader finds

few_in : (chunk : ℕ) → length (bytes_in chunk) ≤ 7
unfolding bytes_in
few_in chunk = omega (arith, length-take (min (get_or (to_be_bytes w64 chunk) 7 0) 7) (to_be_bytes w64 chunk))

pub few_read : (list : List ℕ) → length (flat_map bytes_in list) ≤ 7 * length list
few_read [] = omega arith
few_read (chunk ∷ list) = omega (arith, length-append (bytes_in chunk) (flat_map bytes_in list), few_in chunk, few_read list)

-- a list of too many chunks is that of no key
pub too_many : (store : ℕ) (key list : List ℕ) → 501 < length list → IsChunkList store key list → ⊥
too_many store key list many is =
    let long : length list ≡ suc (length (groups_of key)) = ap (λ (l : List ℕ). length l) is.is_list in
    omega (arith, long, length_groups ((length key - 1) / 7) key, is.is_key.has_length.1)

small_take : (n : ℕ) (bs : List ℕ) → AreBytes bs → AreBytes (take n bs)
small_take zero bs small = tt
small_take (suc n) [] small = tt
small_take (suc n) (b ∷ bs) small = (small.0, small_take n bs small.1)

small_append : (bs cs : List ℕ) → AreBytes bs → AreBytes cs → AreBytes (bs ++ cs)
small_append [] cs small small' = small'
small_append (b ∷ bs) cs small small' = (small.0, small_append bs cs small.1 small')

small_in : (chunk : ℕ) → AreBytes (bytes_in chunk)
unfolding bytes_in
small_in chunk =
    small_take (min (get_or (to_be_bytes w64 chunk) 7 0) 7) (to_be_bytes w64 chunk)
    (omega arith, (omega arith, (omega arith, (omega arith, (omega arith, (omega arith, (omega arith, (omega arith, tt))))))))

small_all : (list : List ℕ) → AreBytes (flat_map bytes_in list)
small_all [] = tt
small_all (chunk ∷ list) = small_append (bytes_in chunk) (flat_map bytes_in list) (small_in chunk) (small_all list)

some_of : (n : ℕ) → false ≡ nat_eq n 0 → 1 ≤ n
some_of n some = grind (arith, nat_tests)

none_of : (n : ℕ) → true ≡ nat_eq n 0 → n ≡ 0
none_of n none = grind (arith, nat_tests)

pub is_found : (store : ℕ) (cut key list : List ℕ) → list ≡ store ∷ cut → get_or list 0 0 < 2 ^ 64 → key ≡ flat_map bytes_in cut → false ≡ nat_eq (length key) 0 → length cut ≤ 500 → true ≡ pointwise nat_eq (groups_of key) cut → IsChunkList store key list
is_found store cut key list parts id read some few same =
    let first : get_or list 0 0 ≡ store = ap (λ (l : List ℕ). get_or l 0 0) parts in
    let any : 1 ≤ length key = some_of (length key) some in
    let short : length key ≤ 7 * length cut = rw read (few_read cut) in
    record {
      is_id = omega (arith, first, id);
      is_key = record { has_length = (omega arith, omega arith); bytes = rw read (small_all cut) };
      is_list = parts ∙ ap (λ (l : List ℕ). store ∷ l) (sym ((bytes_eq-Decides (groups_of key) cut).0 (sym same)));
    }

-- what is read of a key's list is the key
read_back : (store id : ℕ) (cut read key list : List ℕ) → list ≡ store ∷ cut → read ≡ flat_map bytes_in cut → IsChunkList id key list → read ≡ key
read_back store id cut read key list parts is_read is =
    is_read ∙ ap (λ (l : List ℕ). flat_map bytes_in (drop 1 l)) (sym parts ∙ is.is_list) ∙ key_read key is.is_key

pub none_empty : (store id : ℕ) (cut read key list : List ℕ) → list ≡ store ∷ cut → read ≡ flat_map bytes_in cut → true ≡ nat_eq (length read) 0 → IsChunkList id key list → ⊥
none_empty store id cut read key list parts is_read empty is =
    omega (arith, none_of (length read) empty, ap (λ (l : List ℕ). length l) (read_back store id cut read key list parts is_read is), is.is_key.has_length.0)

pub none_other : (store id : ℕ) (cut read key list : List ℕ) → list ≡ store ∷ cut → read ≡ flat_map bytes_in cut → false ≡ pointwise nat_eq (groups_of read) cut → IsChunkList id key list → ⊥
none_other store id cut read key list parts is_read other is =
    let same : groups_of read ≡ cut =
    ap (λ (k : List ℕ). groups_of k) (read_back store id cut read key list parts is_read is) ∙ ap (λ (l : List ℕ). drop 1 l) (sym is.is_list ∙ parts) in
    true≢false (sym ((bytes_eq-Decides (groups_of read) cut).1 same) ∙ sym other)

pub none_longer : (store id : ℕ) (cut key list : List ℕ) → list ≡ store ∷ cut → 500 < length cut → IsChunkList id key list → ⊥
none_longer store id cut key list parts many is =
    let long : length list ≡ suc (length cut) = ap (λ (l : List ℕ). length l) parts in
    too_many id key list (omega arith) is
