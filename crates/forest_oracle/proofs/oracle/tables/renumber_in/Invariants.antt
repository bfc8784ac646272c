use Rattle.std.proofs.Common.{◌≡◌, ◌++◌, map, take, drop}
use Rattle.forest_model.specs.Stores.{at_seq}
use Rattle.forest_oracle.proofs.oracle.tables.renumber_in.Given as goal

abbrev pub invariant-loop-store : goal.invariant-loop-store
invariant-loop-store l = l.store-items ≡ map (at_seq l.id l.seq) (take l.store-index l.fn.table.items) ++ drop l.store-index l.fn.table.items
