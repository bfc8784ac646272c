use Rattle.model_laws.proofs.Same.{nothing_new_decides}
use Rattle.model_laws.proofs.nothing_new.Goals as goal

pub returns : goal.returns
returns c = nothing_new_decides
