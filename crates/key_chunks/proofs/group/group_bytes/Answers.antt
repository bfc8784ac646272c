use Rattle.std.proofs.Common.{arith}
use Rattle.key_chunks.specs.Chunks.{count_byte}
use Rattle.key_chunks.proofs.GroupFill.{filled}
use Rattle.key_chunks.proofs.group.group_bytes.Goals as goal

pub returns : goal.returns
returns c =
    rw (c.copy_from_slice.ensures.after, c.min-used.ensures, c.count_byte.ensures)
    (filled 7 7 (count_byte c.args.key.now) c.args.key.now (omega arith))
