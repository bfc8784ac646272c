use Rattle.std.proofs.Common.{◌++◌, arith}
use Rattle.doc_stream.proofs.KeptAt.{record_kept, blocks_keep}
use Rattle.doc_stream.proofs.laws.blocks_keep_records.Goals as goal

pub returns : goal.returns
returns c revision before after file more address r is_end empty behind stands =
    record_kept revision file (file ++ more) before after (blocks_keep revision before after file more is_end empty (omega arith)) address r stands
