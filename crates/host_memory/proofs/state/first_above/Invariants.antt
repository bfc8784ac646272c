use Rattle.std.proofs.Common.{◌≡◌}
use Rattle.std.specs.List.{find}
use Rattle.host_memory.specs.Pending.{qualifies}
use Rattle.host_memory.proofs.state.first_above.Given as goal

abbrev pub invariant-loop-number : goal.invariant-loop-number
invariant-loop-number l = find (qualifies l.after) l.number-iterator ≡ find (qualifies l.after) l.files.entries
