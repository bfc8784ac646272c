-- Files of two blocks, and whether a block is there.
use Rattle.std.proofs.Common.{◌≡◌, ℕ, Bool, true, IsTrue, nat_le, ◌+◌, ◌-◌, ◌*◌, ◌/◌, ◌≤◌, min, List, ◌++◌, length, take, drop, replicate, sym, ap, ◌∙◌, arith, length-append}
use Rattle.std.proofs.lemmas.List.{append-nil, length-take, length-replicate, take_min}
use Rattle.std.proofs.Math.Seq.{take-length}
use Rattle.std.proofs.lemmas.Bool.{leb-true}
use Rattle.host_files.specs.Bytes.{whole_part, two_blocks, IsBlockAt}

no_zeros : (n : ℕ) (xs : List ℕ) → n ≡ 0 → xs ≡ xs ++ replicate n 0
no_zeros n xs e = sym (ap (λ (k : ℕ). xs ++ replicate k 0) e ∙ append-nil xs)

all_of : (n : ℕ) (xs : List ℕ) → length xs ≤ n → take n xs ≡ xs
all_of n xs le = sym (take_min n xs) ∙ ap (λ (k : ℕ). take k xs) (let least : min n (length xs) ≡ length xs = omega (arith, le) in least) ∙ take-length xs

pub length_whole : (old : List ℕ) → length (whole_part old) ≡ length old / 4096 * 4096
length_whole old = omega (arith, length-take (length old / 4096 * 4096) old)

-- what is cut to two blocks
pub two_by_cut : (old w : List ℕ) → w ≡ whole_part old → 8192 ≤ length w → take 8192 w ≡ two_blocks old
two_by_cut old w is long =
    no_zeros (8192 - length w) (take 8192 w) (omega (arith, long)) ∙ ap (λ (v : List ℕ). take 8192 v ++ replicate (8192 - length v) 0) is

-- what gets zeros behind it
pub two_by_zeros : (old w : List ℕ) → w ≡ whole_part old → length w ≤ 8192 → w ++ replicate (8192 - length w) 0 ≡ two_blocks old
two_by_zeros old w is short =
    ap (λ (v : List ℕ). v ++ replicate (8192 - length w) 0) (sym (all_of 8192 w short)) ∙ ap (λ (v : List ℕ). take 8192 v ++ replicate (8192 - length v) 0) is

-- what has two already
pub two_already : (old w : List ℕ) → w ≡ whole_part old → length w ≡ 8192 → w ≡ two_blocks old
two_already old w is long = sym (all_of 8192 w (omega (arith, long))) ∙ two_by_cut old w is (omega (arith, long))

pub length_two : (old : List ℕ) → length (two_blocks old) ≡ 8192
length_two old =
    omega (arith, length-append (take 8192 (whole_part old)) (replicate (8192 - length (whole_part old)) 0), length-take 8192 (whole_part old), length-replicate {A = ℕ} (8192 - length (whole_part old)) 0)

-- a block that was read in whole
pub block_there : (bytes room : List ℕ) (at place : ℕ) (whole : Bool) → place ≡ at * 4096 → whole ≡ true → (IsTrue whole → room ≡ take 4096 (drop place bytes)) → whole ≡ nat_le (place + 4096) (length bytes) → IsBlockAt bytes at (record { bytes = room })
block_there bytes room at place whole is all given tells =
    let within = leb-true (place + 4096) (length bytes) (sym tells ∙ all) in
    record {
      there = λ _. given all ∙ ap (λ (n : ℕ). take 4096 (drop n bytes)) is;
      beyond = λ short. absurd (omega (arith, within, short, is));
    }
