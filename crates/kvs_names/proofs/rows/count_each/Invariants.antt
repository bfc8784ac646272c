use Rattle.std.proofs.Common.{◌≡◌, ◌++◌, map, take, drop}
use Rattle.kvs_names.specs.Row.{row_of}
use Rattle.kvs_names.specs.Table.{with_numbers}
use Rattle.kvs_names.proofs.rows.count_each.Given as goal

abbrev pub invariant-loop-row : goal.invariant-loop-row
invariant-loop-row l = map row_of l.rows ≡ map (with_numbers l.id l.seq l.documents) (take l.row-index (map row_of l.fn.rows)) ++ drop l.row-index (map row_of l.fn.rows)
