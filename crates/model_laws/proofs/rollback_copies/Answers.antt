use Rattle.model_laws.proofs.Copies.{copies_of}
use Rattle.model_laws.proofs.rollback_copies.Goals as goal

pub returns : goal.returns
returns c = copies_of
