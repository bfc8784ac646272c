use Rattle.std.proofs.Common.{subst, false, IsTrue}
use Rattle.std.proofs.lemmas.Bool.{false≢true}
use Rattle.forest_model.specs.declared.line.Line.{Line}
use Rattle.play_run.specs.Built.{is_built}
use Rattle.play_run.proofs.player.told_for.Goals as goal

-- a text has one line, so a line of the first path would have been run
pub returns-in-Ok-None-tell-clause-bad : goal.returns-in-Ok-None-tell-clause-bad
returns-in-Ok-None-tell-clause-bad g c = λ _. (
  λ line taken.
      let read = rw c.in-Ok-Some.field-0-is at c.in-Ok-Some.ensures.found in
      let same = c.one_spelling.ensures.one_line false line c.in-Ok-Some.line c.args.text.now taken.is read in
      let none = rw c.in-Ok-None-tell.field-0-is at c.in-Ok-None-tell.ensures.built in
      absurd (false≢true (none.1 (subst (λ (l : Line). IsTrue (is_built l)) same taken.built))),
  rw c.in-Ok-None-tell.field-0-is at c.in-Ok-None-tell.ensures.none,
)
