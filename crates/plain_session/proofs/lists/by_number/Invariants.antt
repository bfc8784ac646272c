-- The pairs that are left, put into what there is, make what all make.
use Rattle.std.proofs.Common.{◌≡◌, [], length}
use Rattle.plain_session.proofs.Numbers.{filled}
use Rattle.plain_session.proofs.lists.by_number.Given as goal

abbrev pub invariant-loop-seq : goal.invariant-loop-seq
invariant-loop-seq l = filled l.pairs.items l.ordered.entries ≡ filled l.fn.pairs.items []

abbrev pub decreases-loop-seq : goal.decreases-loop-seq
decreases-loop-seq l = length l.pairs.items
