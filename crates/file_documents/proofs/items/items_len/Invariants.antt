use Rattle.std.proofs.Common.{◌≡◌, ◌≤◌, ◌*◌, ◌^◌, take, sum_by}
use Rattle.forest_model.specs.Step.{item_length}
use Rattle.file_documents.proofs.items.items_len.Given as goal

abbrev pub invariant-loop-item : goal.invariant-loop-item
invariant-loop-item l = record {
  so_far : l.sum ≡ sum_by item_length (take l.item-index l.items);
  small : l.sum ≤ l.item-index * 2 ^ 21;
}
