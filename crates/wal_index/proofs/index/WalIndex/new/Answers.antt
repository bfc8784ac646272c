use Rattle.std.proofs.Common.{List, ℕ, false, ap, ◌∙◌}
use Rattle.std.specs.FinMap as finite
use Rattle.wal_index.specs.Index.{Index, Map}
use Rattle.wal_index.specs.Merged.{all_pairs}
use Rattle.wal_index.proofs.Maps.{no_rows}
use Rattle.wal_index.proofs.TwoLists.{no_row}
use Rattle.wal_index.proofs.index.WalIndex.new.Goals as goal

pub returns : goal.returns
returns c =
    let settled = c.new.result.settled.items in
    let recent = c.new.result.recent.items in
    let with_map : Map → Index = λ m. record { entries = m; gone = c.new-3.result.items; room = 0; may_go = false } in
    let with_gone : List ℕ → Index = λ gone. record { entries = finite.empty; gone = gone; room = 0; may_go = false } in
    ap with_map (no_rows (all_pairs settled recent) (no_row settled recent c.new.ensures.settled c.new.ensures.recent)) ∙ ap with_gone c.new-3.ensures.items
