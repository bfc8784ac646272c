use Rattle.header_chain.proofs.Once.{leads_down}
use Rattle.header_chain.proofs.laws.links_lead_down.Goals as goal

pub returns : goal.returns
returns c at h before older formed links = leads_down at before.0 h formed links.0
