use Rattle.std.proofs.Common.{◌≡◌, map, length, take}
use Rattle.kvs_names.specs.Row.{row_of}
use Rattle.kvs_names.proofs.rows.from_stores.Given as goal

abbrev pub invariant-loop-n : goal.invariant-loop-n
invariant-loop-n l = record {
  so_far : map row_of l.rows.items ≡ take l.n l.stores;
  len : length l.rows.items ≡ l.n;
}
