use Rattle.doc_stream.proofs.WrittenScanned.{closed}
use Rattle.doc_stream.proofs.laws.close_is_scanned.Goals as goal

pub returns : goal.returns
returns c = closed
