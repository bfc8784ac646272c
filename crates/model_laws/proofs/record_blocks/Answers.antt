use Rattle.model_laws.proofs.Headers.{records_keep}
use Rattle.model_laws.proofs.record_blocks.Goals as goal

pub returns : goal.returns
returns c = records_keep
