use Rattle.doc_stream.proofs.Filled.{put_stands}
use Rattle.doc_stream.proofs.WrittenRead.{put_at_end}
use Rattle.doc_stream.proofs.laws.put_stands.Goals as goal

pub returns-clause-stands : goal.returns-clause-stands
returns-clause-stands c = put_stands

pub returns-clause-behind : goal.returns-clause-behind
returns-clause-behind c revision bytes before after file grown is_end short put =
    let ends = put_at_end revision bytes before after file grown (record { number = is_end; short = short }) put in
    (ends.number, ends.short)
