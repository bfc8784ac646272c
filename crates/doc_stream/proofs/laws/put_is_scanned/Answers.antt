use Rattle.doc_stream.proofs.WrittenScanned.{put}
use Rattle.doc_stream.proofs.laws.put_is_scanned.Goals as goal

pub returns : goal.returns
returns c = put
