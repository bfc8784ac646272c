use Rattle.std.proofs.Common.{◌≡◌, map, replicate}
use Rattle.std.specs.Arc.{arc_value}
use Rattle.block_list.proofs.group.Group.repeat.Given as goal

abbrev pub invariant-loop : goal.invariant-loop
invariant-loop l = map arc_value l.kept.items ≡ replicate l.counter (arc_value l.block)
