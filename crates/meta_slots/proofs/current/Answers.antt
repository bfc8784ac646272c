use Rattle.meta_slots.proofs.Readings.{only_second, only_first}
use Rattle.meta_slots.proofs.current.Goals as goal

pub returns-then-counts_second-clause-only : goal.returns-then-counts_second-clause-only
returns-then-counts_second-clause-only c =
    only_second c.args.slot0.now c.args.slot1.now c.said_by-first.result c.said_by-second.result c.said_by-first.ensures c.said_by-second.ensures c.if-counts_second.ensures

pub returns-else-counts_second-clause-only : goal.returns-else-counts_second-clause-only
returns-else-counts_second-clause-only c =
    only_first c.args.slot0.now c.args.slot1.now c.said_by-first.result c.said_by-second.result c.said_by-first.ensures c.said_by-second.ensures c.if-counts_second.ensures
