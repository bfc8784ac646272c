use Rattle.std.proofs.Common.{◌≡◌, ◌≤◌, ◌++◌, length}
use Rattle.key_chunks.specs.Chunks.{groups_of, chunks_of}
use Rattle.key_chunks.proofs.writing.chunks.Given as goal

-- the list so far, and the chunks of what is left
abbrev pub invariant-loop-rest : goal.invariant-loop-rest
invariant-loop-rest l = record {
  some : 1 ≤ length l.rest;
  together : l.list.items ++ groups_of l.rest ≡ chunks_of l.store l.key;
}

abbrev pub decreases-loop-rest : goal.decreases-loop-rest
decreases-loop-rest l = length l.rest
