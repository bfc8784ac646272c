use Rattle.std.proofs.Common.{◌≡◌, ◌-◌, ◌++◌, ◌≤◌, max, length, replicate}
use Rattle.std.specs.Arc.{arc_value}
use Rattle.block_list.proofs.blocks.Blocks.padded.Given as goal

abbrev pub invariant-loop : goal.invariant-loop
invariant-loop l = (length l.self ≤ l.counter) × (l.counter ≤ max l.len (length l.self)) × (l.blocks ≡ l.self ++ replicate (l.counter - length l.self) (arc_value l.block))
