use Rattle.doc_stream.proofs.Loads.{stands_read}
use Rattle.doc_stream.proofs.reader.fetch.Goals as goal

pub returns-in-Some-clause-stands : goal.returns-in-Some-clause-stands
returns-in-Some-clause-stands g c told =
    stands_read c.args.revision (g.V.View.content c.args.view.now) c.args.at c.in-Some.kind c.in-Some.payload.now c.read.new.out c.in-Some.ensures (c.in-Ok.ensures.given told)
