use Rattle.std.proofs.Common.{◌≡◌, map, drop}
use Rattle.kvs_names.specs.Row.{row_of}
use Rattle.kvs_names.specs.Table.{row_with_id}
use Rattle.kvs_names.proofs.rows.numbers_of.Given as goal

-- the store of that id is among those that are left
abbrev pub invariant-loop-row : goal.invariant-loop-row
invariant-loop-row l = row_with_id (map row_of l.rows) l.id ≡ row_with_id (map row_of (drop l.row-index l.rows)) l.id
