use Rattle.doc_stream.proofs.Ranges.{records_once}
use Rattle.doc_stream.proofs.laws.scanned_is_one.Goals as goal

pub returns : goal.returns
returns c revision file start count records others one two = records_once revision file start count records others one two
