use Rattle.std.proofs.Common.{◌≡◌, map, drop}
use Rattle.kvs_names.specs.Row.{row_of}
use Rattle.kvs_names.specs.Table.{row_named}
use Rattle.kvs_names.proofs.rows.id_of.Given as goal

-- the first store of that name is among those that are left
abbrev pub invariant-loop-row : goal.invariant-loop-row
invariant-loop-row l = row_named (map row_of l.rows) l.name ≡ row_named (map row_of (drop l.row-index l.rows)) l.name
