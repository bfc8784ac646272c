use Rattle.doc_stream.proofs.WrittenScanned.{opened}
use Rattle.doc_stream.proofs.laws.open_is_scanned.Goals as goal

pub returns : goal.returns
returns c = opened
