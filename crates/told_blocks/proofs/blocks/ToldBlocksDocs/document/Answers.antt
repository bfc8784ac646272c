use Rattle.std.proofs.Common.{◌≡◌, ◌⊎◌, ◌/◌, Err, subst, sym}
use Rattle.forest_model.specs.declared.refusal.Refusal.TheVariants as Refusal
use Rattle.doc_stream.specs.Memory.{HasHeadAt}
use Rattle.doc_stream.specs.Reading.{RecordAt}
use Rattle.doc_stream.specs.Shown.{Unsealed, open_file}
use Rattle.told_blocks.specs.Told.{Told}
use Rattle.told_blocks.proofs.blocks.ToldBlocksDocs.document.Goals as goal

pub returns-clause-exact : goal.returns-clause-exact
returns-clause-exact c = λ told rec has. c.read.ensures.exact told rec (subst (λ (t : Told). RecordAt t.file t.seen t.tail c.args.address rec) (sym c.self.view_is) has)

pub returns-clause-first : goal.returns-clause-first
returns-clause-first c = λ told bare.
    subst (λ (t : Told). (c.read.result ≡ Err (Refusal.Damaged t.file (c.args.address / 4096))) ⊎ (c.read.result ≡ Err Refusal.DiskFault)) c.self.view_is
    (c.read.ensures.first told (subst (λ (t : Told). Unsealed (open_file t.file t.tail) t.seen (c.args.address / 4096)) (sym c.self.view_is) bare))

pub returns-clause-memory : goal.returns-clause-memory
returns-clause-memory c = λ told is. subst (λ (t : Told). HasHeadAt (open_file t.file t.tail) t.seen c.args.address) c.self.view_is (c.read.ensures.memory told is)
