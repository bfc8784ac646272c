use Rattle.std.proofs.Common.{◌≡◌, ◌+◌, drop, Some}
use Rattle.std.specs.List.{list_all, slice_get}
use Rattle.forest_model.specs.Stored.{StoreRow}
use Rattle.header_block.specs.Layout.{is_before}
use Rattle.header_block.proofs.rules.is_before_later.Given as goal

abbrev pub invariant-loop-later : goal.invariant-loop-later
invariant-loop-later l = (s : StoreRow) → slice_get l.stores l.n ≡ Some s → list_all (is_before s) (drop (l.n + 1) l.stores) ≡ list_all (is_before s) (drop l.later l.stores)
