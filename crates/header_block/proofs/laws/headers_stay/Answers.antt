use Rattle.std.proofs.Common.{arith}
use Rattle.header_block.proofs.OneHeader.{linked_stay, previous_below}
use Rattle.header_block.proofs.laws.headers_stay.Goals as goal

pub returns-clause-fall : goal.returns-clause-fall
returns-clause-fall c revision file h g older linked = previous_below h.0 g.0 h.1 linked.0.well_formed linked.1.0

pub returns-clause-stay : goal.returns-clause-stay
returns-clause-stay c revision old new last older same linked = linked_stay revision last.0 old new last older same (omega arith) linked
