use Rattle.std.proofs.Common.{ℕ}
use Rattle.forest_model.specs.declared.stored.Rec.{Rec}
use Rattle.doc_stream.specs.Reading.{RecordAt}
use Rattle.doc_stream.proofs.Fronts.{got_holds}
use Rattle.doc_stream.proofs.WrittenRead.{is_read}
use Rattle.doc_stream.proofs.laws.written_is_read.Goals as goal

pub returns : goal.returns
returns c revision first last steps begins wrote n address r got =
    got_holds (λ (x : ℕ × Rec). RecordAt revision last.file last.tail x.0 x.1) last.records n (address, r) (is_read revision first last steps begins wrote).stand got
