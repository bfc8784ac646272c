use Rattle.std.proofs.Common.{◌≡◌, ◌*◌, take, length}
use Rattle.host_files.specs.Bytes.{bytes_of}
use Rattle.host_files.proofs.blocks.gather.Given as goal

abbrev pub invariant-loop-block : goal.invariant-loop-block
invariant-loop-block l = (l.used ≡ l.block-index * 4096) × (take l.used l.bytes ≡ bytes_of (take l.block-index l.blocks)) × (length (bytes_of (take l.block-index l.blocks)) ≡ l.block-index * 4096)
