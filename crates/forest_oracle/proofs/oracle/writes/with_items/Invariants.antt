use Rattle.std.proofs.Common.{◌≡◌, ◌+◌, ◌%◌, ◌<◌, drop}
use Rattle.std.specs.Prelude.{sum_by}
use Rattle.forest_model.specs.Step.{item_length}
use Rattle.forest_oracle.proofs.oracle.writes.with_items.Given as goal

-- the bytes so far with those of the items that are left are all
abbrev pub invariant-loop-item : goal.invariant-loop-item
invariant-loop-item l = record {
  bytes : (l.all + sum_by item_length (drop l.item-index l.items)) % 4064 ≡ (l.loose + sum_by item_length l.items) % 4064;
  within : l.all < 4064;
}
