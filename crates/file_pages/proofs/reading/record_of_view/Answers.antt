use Rattle.std.proofs.Common.{◌/◌, List, subst, sym}
use Rattle.block_host.specs.declared.block.Block.{Block}
use Rattle.doc_stream.specs.Memory.{HasHeadAt}
use Rattle.doc_stream.specs.Reading.{RecordAt}
use Rattle.doc_stream.specs.Shown.{Unsealed, open_file}
use Rattle.file_pages.proofs.Read.{told_is}
use Rattle.file_pages.proofs.reading.record_of_view.Goals as goal

pub returns-clause-exact : goal.returns-clause-exact
returns-clause-exact g c tells rec has =
    c.read.ensures.exact tells rec
    (subst (λ (blocks : List Block). RecordAt c.args.file blocks c.args.tail.now c.args.address rec) (told_is g.V.View.tells (g.V.View.content c.args.view.now) tells) has)

pub returns-clause-first : goal.returns-clause-first
returns-clause-first g c tells bare =
    c.read.ensures.first tells
    (subst (λ (blocks : List Block). Unsealed (open_file c.args.file c.args.tail.now) blocks (c.args.address / 4096)) (told_is g.V.View.tells (g.V.View.content c.args.view.now) tells) bare)

pub returns-clause-memory : goal.returns-clause-memory
returns-clause-memory g c tells is =
    subst (λ (blocks : List Block). HasHeadAt (open_file c.args.file c.args.tail.now) blocks c.args.address) (sym (told_is g.V.View.tells (g.V.View.content c.args.view.now) tells)) (c.read.ensures.memory tells is)
