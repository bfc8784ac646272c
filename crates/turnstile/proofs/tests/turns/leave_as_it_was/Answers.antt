use Rattle.turnstile.proofs.Turns.{keeps_by, keeps_soundly_by}
use Rattle.turnstile.proofs.Takings.{given_taken}
use Rattle.turnstile.proofs.tests.turns.leave_as_it_was.Goals as goal

pub leave_same-requires-clause-keeps : goal.leave_same-requires-clause-keeps
leave_same-requires-clause-keeps g = given_taken _ g.args.value _ g.requires.inside.0 (keeps_by (λ t. t.steps) g.args.value)

pub leave_same-requires-clause-sound : goal.leave_same-requires-clause-sound
leave_same-requires-clause-sound g = λ _. given_taken _ g.args.value _ g.requires.inside.0 (keeps_soundly_by (λ t. t.steps) g.args.value)
