-- Numbers of 8 bytes: that they are read back, and where they are zero.
use Rattle.std.proofs.Common.{◌≡◌, ◌<◌, ◌≤◌, ◌+◌, ◌-◌, ◌*◌, ◌^◌, ℕ, true, List, [], ◌∷◌, ◌++◌, length, take, drop, replicate, refl, sym, ◌∙◌, ap, arith, append_assoc, length-append, length-drop, take-append-drop}
use Rattle.std.specs.Int.{w64, from_be_bytes, to_be_bytes}
use Rattle.std.proofs.lemmas.Bool.{and_parts, and_from, ltb-true, lt-ltb}
use Rattle.std.proofs.lemmas.List.{take_at, drop_at, drop-drop, drop_all, drop-replicate, replicate-append-replicate, length-take-le}
use Rattle.std.proofs.lemmas.Nat.{be_bytes_8, from_be_bytes-to_be_bytes_8}
use Rattle.node_page.specs.Nodes.{Entry, long, entry_bytes, fits}
use Rattle.node_page.specs.Stems.{is_long}
use Rattle.node_page.specs.Reading.{AreBytes, long_in, entry_in, IsZeroFrom}
use Rattle.node_page.proofs.Parts.{bytes_take, bytes_drop, take_add, IsCodec}

pub length-long : (n : ℕ) → length (long n) ≡ 8
unfolding long
length-long n = refl

pub long_back : (n : ℕ) (rest : List ℕ) → n < 2 ^ 64 → long_in (long n ++ rest) ≡ n
unfolding long long_in
long_back n rest small = ap (λ (bs : List ℕ). from_be_bytes w64 bs) (take_at (to_be_bytes w64 n) rest 8 refl) ∙ from_be_bytes-to_be_bytes_8 n small

pub long_forth : (bytes : List ℕ) → AreBytes bytes → 8 ≤ length bytes → long (long_in bytes) ≡ take 8 bytes
unfolding long long_in
long_forth bytes are within = be_bytes_8 (take 8 bytes) (from_be_bytes w64 (take 8 bytes)) (length-take-le 8 bytes within) (bytes_take 8 bytes are).each refl

eight_small : (a b c d e f g h : ℕ) → a < 256 → b < 256 → c < 256 → d < 256 → e < 256 → f < 256 → g < 256 → h < 256
    → from_be_bytes w64 (a ∷ b ∷ c ∷ d ∷ e ∷ f ∷ g ∷ h ∷ []) < 2 ^ 64
eight_small a b c d e f g h h1 h2 h3 h4 h5 h6 h7 h8 = omega arith

read_small : (bs : List ℕ) → length bs ≡ 8 → AreBytes bs → from_be_bytes w64 bs < 2 ^ 64
read_small (a ∷ b ∷ c ∷ d ∷ e ∷ f ∷ g ∷ h ∷ []) eight are = eight_small a b c d e f g h (are.each 0) (are.each 1) (are.each 2) (are.each 3) (are.each 4) (are.each 5) (are.each 6) (are.each 7)
read_small (a ∷ b ∷ c ∷ d ∷ e ∷ f ∷ g ∷ h ∷ i ∷ bs) eight are = absurd (omega arith)
read_small [] eight are = absurd (omega arith)
read_small (a ∷ []) eight are = absurd (omega arith)
read_small (a ∷ b ∷ []) eight are = absurd (omega arith)
read_small (a ∷ b ∷ c ∷ []) eight are = absurd (omega arith)
read_small (a ∷ b ∷ c ∷ d ∷ []) eight are = absurd (omega arith)
read_small (a ∷ b ∷ c ∷ d ∷ e ∷ []) eight are = absurd (omega arith)
read_small (a ∷ b ∷ c ∷ d ∷ e ∷ f ∷ []) eight are = absurd (omega arith)
read_small (a ∷ b ∷ c ∷ d ∷ e ∷ f ∷ g ∷ []) eight are = absurd (omega arith)

pub long_small : (bytes : List ℕ) → AreBytes bytes → 8 ≤ length bytes → long_in bytes < 2 ^ 64
unfolding long_in
long_small bytes are within = read_small (take 8 bytes) (length-take-le 8 bytes within) (bytes_take 8 bytes are)

pub long_codec : IsCodec long long_in is_long 8
long_codec = record {
  long = length-long;
  back = λ n rest fit. long_back n rest (ltb-true n (2 ^ 64) fit);
  forth = long_forth;
  fit = λ bytes are within. lt-ltb (long_in bytes) (2 ^ 64) (long_small bytes are within);
}

-- an entry is two numbers
pub entry_back : (e : Entry) (rest : List ℕ) → fits e ≡ true → entry_in (entry_bytes e ++ rest) ≡ e
entry_back (chunk, value) rest fit =
    let parts = and_parts _ _ fit in
    let whole = append_assoc (long chunk) (long value) rest in
    let one : long_in ((long chunk ++ long value) ++ rest) ≡ chunk = ap long_in whole ∙ long_back chunk (long value ++ rest) (ltb-true chunk (2 ^ 64) parts.0) in
    let two : long_in (drop 8 ((long chunk ++ long value) ++ rest)) ≡ value =
    ap (λ (bs : List ℕ). long_in (drop 8 bs)) whole ∙ ap long_in (drop_at (long chunk) (long value ++ rest) 8 (length-long chunk)) ∙ long_back value rest (ltb-true value (2 ^ 64) parts.1) in
    ap (λ (n : ℕ). (n, long_in (drop 8 ((long chunk ++ long value) ++ rest)))) one ∙ ap (λ (n : ℕ). (chunk, n)) two

pub entry_codec : IsCodec entry_bytes entry_in fits 16
entry_codec = record {
  long = λ e. length-append (long e.0) (long e.1) ∙ omega (arith, length-long e.0, length-long e.1);
  back = entry_back;
  forth = λ bytes are within.
      ap (λ (bs : List ℕ). bs ++ long (long_in (drop 8 bytes))) (long_forth bytes are (omega arith))
      ∙ ap (λ (bs : List ℕ). take 8 bytes ++ bs) (long_forth (drop 8 bytes) (bytes_drop 8 bytes are) (omega (arith, length-drop 8 bytes)))
      ∙ take_add 8 8 bytes;
  fit = λ bytes are within.
      and_from _ _ (lt-ltb (long_in bytes) (2 ^ 64) (long_small bytes are (omega arith)))
      (lt-ltb (long_in (drop 8 bytes)) (2 ^ 64) (long_small (drop 8 bytes) (bytes_drop 8 bytes are) (omega (arith, length-drop 8 bytes))));
}

-- ---- zeros

long_zero : long 0 ≡ replicate 8 0
unfolding long
long_zero = refl

zero_long : (rest : List ℕ) → long_in (replicate 8 0 ++ rest) ≡ 0
zero_long rest = ap (λ (bs : List ℕ). long_in (bs ++ rest)) (sym long_zero) ∙ long_back 0 rest (omega arith)

-- zeros, and zeros behind them
joined : (k n : ℕ) (bytes : List ℕ) → take k bytes ≡ replicate k 0 → drop k bytes ≡ replicate n 0 → bytes ≡ replicate (k + n) 0
joined k n bytes front back =
    sym (take-append-drop k bytes)
    ∙ ap (λ (bs : List ℕ). bs ++ drop k bytes) front
    ∙ ap (λ (bs : List ℕ). replicate k 0 ++ bs) back
    ∙ replicate-append-replicate k n 0

-- zeros from a place on, if the number there is zero and from the next one on there are zeros
pub zero_more : (bytes : List ℕ) (n : ℕ) → AreBytes bytes → length bytes ≡ 4064 → n < 508 → long_in (drop (8 * n) bytes) ≡ 0
    → IsZeroFrom (8 * (n + 1)) bytes → IsZeroFrom (8 * n) bytes
zero_more bytes n are whole within here behind =
    let rest = drop (8 * n) bytes in
    let long_enough : 8 ≤ length rest = omega (arith, length-drop (8 * n) bytes) in
    let front : take 8 rest ≡ replicate 8 0 = sym (long_forth rest (bytes_drop (8 * n) bytes are) long_enough) ∙ ap long here ∙ long_zero in
    let next : 8 * n + 8 ≡ 8 * (n + 1) = omega arith in
    let back : drop 8 rest ≡ replicate (4064 - 8 * (n + 1)) 0 = drop-drop 8 (8 * n) bytes ∙ ap (λ (k : ℕ). drop k bytes) next ∙ behind in
    let count : 8 + (4064 - 8 * (n + 1)) ≡ 4064 - 8 * n = omega arith in
    joined 8 (4064 - 8 * (n + 1)) rest front back ∙ ap (λ (k : ℕ). replicate k 0) count

-- zeros from a place on, seen from a later place
later_zeros : (all at more n : ℕ) (bytes : List ℕ) → drop at bytes ≡ replicate all 0 → all - more ≡ 8 + n
    → drop (at + more) bytes ≡ replicate 8 0 ++ replicate n 0
later_zeros all at more n bytes zeros count =
    sym (drop-drop more at bytes)
    ∙ ap (λ (bs : List ℕ). drop more bs) zeros
    ∙ drop-replicate more all 0
    ∙ ap (λ (k : ℕ). replicate k 0) count
    ∙ sym (replicate-append-replicate 8 n 0)

-- where there are zeros from a place on, each number is zero
pub zero_there : (bytes : List ℕ) (first n : ℕ) → first ≤ n → n < 508 → IsZeroFrom (8 * first) bytes → long_in (drop (8 * n) bytes) ≡ 0
zero_there bytes first n above within zeros =
    let place : 8 * n ≡ 8 * first + 8 * (n - first) = omega arith in
    let count : 4064 - 8 * first - 8 * (n - first) ≡ 8 + (4064 - 8 * n - 8) = omega arith in
    let there = later_zeros (4064 - 8 * first) (8 * first) (8 * (n - first)) (4064 - 8 * n - 8) bytes zeros count in
    ap (λ (k : ℕ). long_in (drop k bytes)) place ∙ ap long_in there ∙ zero_long (replicate (4064 - 8 * n - 8) 0)

-- nothing stands behind the end
pub zero_at_end : (bytes : List ℕ) (n : ℕ) → length bytes ≡ 4064 → 508 ≤ n → IsZeroFrom (8 * n) bytes
zero_at_end bytes n whole past =
    let none : 0 ≡ 4064 - 8 * n = omega arith in
    drop_all (8 * n) bytes (omega arith) ∙ ap (λ (k : ℕ). replicate k 0) none
