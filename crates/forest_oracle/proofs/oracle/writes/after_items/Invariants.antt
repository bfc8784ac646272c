use Rattle.std.proofs.Common.{◌≡◌, ◌+◌, drop}
use Rattle.forest_model.specs.Documents.{after_items}
use Rattle.forest_oracle.proofs.oracle.writes.after_items.Given as goal

-- the items that are left come to the same as all
abbrev pub invariant-loop-item : goal.invariant-loop-item
invariant-loop-item l = record {
  same : after_items l.store (drop l.item-index l.items) l.last l.copy ≡ after_items l.store l.items l.seq l.fn.documents;
  last : l.last ≡ l.seq + l.item-index;
}
