use Rattle.std.proofs.Common.{◌≡◌, drop}
use Rattle.std.specs.List.{list_all}
use Rattle.header_block.specs.Layout.{is_row}
use Rattle.header_block.proofs.rules.are_rows.Given as goal

abbrev pub invariant-loop-n : goal.invariant-loop-n
invariant-loop-n l = list_all (is_row l.next) l.stores ≡ list_all (is_row l.next) (drop l.n l.stores)
