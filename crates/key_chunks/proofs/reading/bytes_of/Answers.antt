use Rattle.std.proofs.Common.{take_all}
use Rattle.key_chunks.proofs.GroupBytes.{few_read}
use Rattle.key_chunks.proofs.reading.bytes_of.Goals as goal

pub returns-clause-few : goal.returns-clause-few
returns-clause-few c = rw (c.loop-group.invariant, take_all c.loop-group.group-index c.args.groups.now c.loop-group-test.false) (few_read c.args.groups.now)
