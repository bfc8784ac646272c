use Rattle.std.proofs.Common.{◌≡◌, ◌++◌, take}
use Rattle.block_list.proofs.blocks.Blocks.with.Given as goal

abbrev pub invariant-loop-block : goal.invariant-loop-block
invariant-loop-block l = l.blocks ≡ l.self ++ take l.block-index l.items
