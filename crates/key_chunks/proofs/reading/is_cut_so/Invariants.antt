use Rattle.std.proofs.Common.{◌≡◌, length}
use Rattle.std.specs.Prelude.{nat_eq}
use Rattle.std.specs.Cmp.Lexicographic.{pointwise}
use Rattle.key_chunks.specs.Chunks.{groups_of}
use Rattle.key_chunks.proofs.reading.is_cut_so.Given as goal

-- what is left decides
abbrev pub invariant-loop-rest : goal.invariant-loop-rest
invariant-loop-rest l = pointwise nat_eq (groups_of l.rest) l.left ≡ pointwise nat_eq (groups_of l.key) l.groups

abbrev pub decreases-loop-rest : goal.decreases-loop-rest
decreases-loop-rest l = length l.rest
