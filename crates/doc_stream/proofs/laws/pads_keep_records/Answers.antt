use Rattle.std.proofs.Common.{◌+◌, [], ◌∷◌, ◌++◌}
use Rattle.doc_stream.proofs.KeptAt.{record_kept, pad_keeps}
use Rattle.doc_stream.proofs.laws.pads_keep_records.Goals as goal

pub returns : goal.returns
returns c revision before file block address r is_end sealed stands =
    record_kept revision file (file ++ block ∷ []) before (record { number = before.number + 1; bytes = [] }) (pad_keeps revision before file block is_end sealed) address r stands
