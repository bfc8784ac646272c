use Rattle.block_host.proofs.Unsealed.{found, sealed}
use Rattle.block_host.proofs.found.found_where_sealed.Goals as goal

pub returns-clause-sealed : goal.returns-clause-sealed
returns-clause-sealed c = sealed

pub returns-clause-found : goal.returns-clause-found
returns-clause-found c = found
