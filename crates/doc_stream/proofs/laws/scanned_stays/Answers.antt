use Rattle.doc_stream.proofs.Ranges.{records_stay}
use Rattle.doc_stream.proofs.laws.scanned_stays.Goals as goal

pub returns : goal.returns
returns c revision old new start count records same of = records_stay revision old new start count records same of
