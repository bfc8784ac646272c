use Rattle.std.proofs.Common.{◌≡◌, map, take}
use Rattle.kvs_names.specs.Row.{row_of}
use Rattle.kvs_names.proofs.rows.to_stores.Given as goal

abbrev pub invariant-loop-row : goal.invariant-loop-row
invariant-loop-row l = l.stores ≡ map row_of (take l.row-index l.row-items)
