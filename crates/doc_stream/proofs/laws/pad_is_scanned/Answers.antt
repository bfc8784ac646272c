use Rattle.doc_stream.proofs.WrittenScanned.{padded}
use Rattle.doc_stream.proofs.laws.pad_is_scanned.Goals as goal

pub returns : goal.returns
returns c = padded
