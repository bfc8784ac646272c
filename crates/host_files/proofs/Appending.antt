-- Blocks put one behind another.
use Rattle.std.proofs.Common.{◌≡◌, ℕ, ◌+◌, ◌≤◌, List, ◌++◌, length, take, drop, sym, ap, ◌∙◌, arith, append_assoc}
use Rattle.std.proofs.lemmas.List.{append-nil, length-take}
use Rattle.std.proofs.lemmas.Grind.{flat_map-append}
use Rattle.std.proofs.Math.Seq.{take-length, take-append-add, take-append_seam}
use Rattle.std.proofs.Math.ListN.{drop_of_length-le}
use Rattle.block_host.specs.declared.block.Block.{Block}
use Rattle.host_files.specs.Bytes.{bytes_of, overwritten}

-- bytes written behind the last
pub written_at_end : (at : ℕ) (part old : List ℕ) → length old ≡ at → overwritten at part old ≡ old ++ part
written_at_end at part old e =
    ap (λ (k : ℕ). take k old ++ part ++ drop (at + length part) old) (sym e)
    ∙ ap (λ (xs : List ℕ). xs ++ part ++ drop (at + length part) old) (take-length old)
    ∙ ap (λ (ys : List ℕ). old ++ part ++ ys) (drop_of_length-le old (omega (arith, e)))
    ∙ append-nil (old ++ part)

-- what stands up to the end of a part that was written at a place
pub taken : (used : ℕ) (part old rest : List ℕ) → used ≤ length old → take (used + length part) (take used old ++ (part ++ rest)) ≡ take used old ++ part
taken used part old rest within =
    ap (λ (k : ℕ). take (k + length part) (take used old ++ (part ++ rest))) (sym (long used old within))
    ∙ take-append-add (take used old) (part ++ rest) (length part)
    ∙ ap (λ (xs : List ℕ). take used old ++ xs) (take-append_seam part rest)
  where
    long : (n : ℕ) (xs : List ℕ) → n ≤ length xs → length (take n xs) ≡ n
    long n xs le = omega (arith, length-take n xs)

-- two parts, one behind the other
pub in_two : (old : List ℕ) (first rest blocks : List Block) → blocks ≡ first ++ rest → old ++ bytes_of first ++ bytes_of rest ≡ old ++ bytes_of blocks
in_two old first rest blocks e =
    append_assoc old (bytes_of first) (bytes_of rest)
    ∙ ap (λ (xs : List ℕ). old ++ xs) (sym (flat_map-append (λ (block : Block). block.bytes) first rest) ∙ ap bytes_of (sym e))
