use Rattle.header_chain.proofs.Once.{last_once, never_both, no_last_once}
use Rattle.header_chain.proofs.laws.last_is_one.Goals as goal

pub returns-clause-header : goal.returns-clause-header
returns-clause-header c revision file last other a b = last_once c.header_is_one.ensures revision file last other a b

pub returns-clause-block : goal.returns-clause-block
returns-clause-block c revision file block other a b = no_last_once revision file block other a b

pub returns-clause-either : goal.returns-clause-either
returns-clause-either c revision file last block a b = never_both revision file last block a b
