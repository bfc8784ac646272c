use Rattle.wal_index.specs.Merged.{all_pairs}
use Rattle.wal_index.proofs.Maps.{no_rows}
use Rattle.wal_index.proofs.TwoLists.{no_row}
use Rattle.wal_index.proofs.index.WalIndex.clear.Goals as goal

pub returns-clause-entries : goal.returns-clause-entries
returns-clause-entries c =
    let settled = c.clear.new.self.settled.items in
    let recent = c.clear.new.self.recent.items in
    no_rows (all_pairs settled recent) (no_row settled recent c.clear.ensures.settled c.clear.ensures.recent)
