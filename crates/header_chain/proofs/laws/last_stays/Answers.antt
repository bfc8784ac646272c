use Rattle.header_chain.proofs.Stays.{added, cut, same}
use Rattle.header_chain.proofs.laws.last_stays.Goals as goal

pub returns-clause-same : goal.returns-clause-same
returns-clause-same c = same

pub returns-clause-added : goal.returns-clause-added
returns-clause-added c = added

pub returns-clause-cut : goal.returns-clause-cut
returns-clause-cut c = cut
