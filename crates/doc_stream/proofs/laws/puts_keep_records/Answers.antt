use Rattle.doc_stream.proofs.Filled.{put_keeps}
use Rattle.doc_stream.proofs.KeptAt.{record_kept}
use Rattle.doc_stream.proofs.laws.puts_keep_records.Goals as goal

pub returns : goal.returns
returns c revision bytes before after file grown address r is_end short later put stands =
    record_kept revision file grown before after (put_keeps revision bytes before after file grown is_end short put) address r stands
