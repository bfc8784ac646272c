use Rattle.btree_cow.proofs.WithEntries.{with_rises}
use Rattle.btree_cow.proofs.WithoutEntries.{without_rises}
use Rattle.btree_cow.proofs.laws.changed_entries_rise.Goals as goal

pub returns-clause-put : goal.returns-clause-put
returns-clause-put c = with_rises

pub returns-clause-removed : goal.returns-clause-removed
returns-clause-removed c = without_rises
