use Rattle.std.proofs.Common.{◌*◌}
use Rattle.node_page.specs.Reading.{IsZeroFrom}
use Rattle.node_page.proofs.page.Page.is_zero_from.Given as goal

abbrev pub invariant-loop-n : goal.invariant-loop-n
invariant-loop-n l = IsZeroFrom (8 * l.n) l.self.bytes → IsZeroFrom (8 * l.used) l.self.bytes
