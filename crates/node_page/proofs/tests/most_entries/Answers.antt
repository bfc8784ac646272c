use Rattle.std.proofs.Common.{◌+◌}
use Rattle.node_page.proofs.RowOfEntries.{row_more, row_rises}
use Rattle.node_page.proofs.tests.most_entries.Goals as goal

pub loop-n-preserved : goal.loop-n-preserved
loop-n-preserved c = row_more c.loop-n.n (7 + c.loop-n.n) c.loop-n.entries c.loop-n.invariant c.loop-n-test.true

pub returns : goal.returns
returns c = row_rises c.loop-n.n c.loop-n.entries c.loop-n.invariant c.loop-n-test.false
