use Rattle.node_page.proofs.RowOfEntries.{IsRow}
use Rattle.node_page.proofs.tests.most_entries.Given as goal

abbrev pub invariant-loop-n : goal.invariant-loop-n
invariant-loop-n l = IsRow l.n l.entries
