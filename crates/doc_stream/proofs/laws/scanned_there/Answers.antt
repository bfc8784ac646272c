use Rattle.doc_stream.proofs.Ranges.{scanned_there as there_of}
use Rattle.doc_stream.proofs.laws.scanned_there.Goals as goal

pub returns : goal.returns
returns c revision file tail start count records of out n address r there = there_of revision file tail start count records of out n address r there
