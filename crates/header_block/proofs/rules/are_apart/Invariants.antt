use Rattle.std.proofs.Common.{◌≡◌, drop}
use Rattle.header_block.specs.Layout.{are_apart}
use Rattle.header_block.proofs.rules.are_apart.Given as goal

abbrev pub invariant-loop-n : goal.invariant-loop-n
invariant-loop-n l = are_apart l.stores ≡ are_apart (drop l.n l.stores)
