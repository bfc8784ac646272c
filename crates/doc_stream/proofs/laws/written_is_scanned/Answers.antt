use Rattle.doc_stream.proofs.WrittenScanned.{is_scanned}
use Rattle.doc_stream.proofs.laws.written_is_scanned.Goals as goal

pub returns : goal.returns
returns c = is_scanned
