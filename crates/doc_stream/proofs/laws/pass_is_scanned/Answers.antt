use Rattle.doc_stream.proofs.WrittenScanned.{passed}
use Rattle.doc_stream.proofs.laws.pass_is_scanned.Goals as goal

pub returns : goal.returns
returns c = passed
