use Rattle.std.proofs.Common.{◌≡◌, take}
use Rattle.std.specs.List.{flat_map}
use Rattle.key_chunks.specs.Chunks.{bytes_in}
use Rattle.key_chunks.proofs.reading.bytes_of.Given as goal

abbrev pub invariant-loop-group : goal.invariant-loop-group
invariant-loop-group l = l.key.items ≡ flat_map bytes_in (take l.group-index l.groups)
