use Rattle.std.proofs.Common.{◌+◌, ap}
use Rattle.turnstile.proofs.Turns.{switches_by, switches_soundly_by}
use Rattle.turnstile.proofs.Takings.{given_taken}
use Rattle.turnstile.proofs.tests.turns.switch.Goals as goal

pub leave_changed-requires-clause-updates : goal.leave_changed-requires-clause-updates
leave_changed-requires-clause-updates g = given_taken _ g.args.value _ g.requires.inside.0 (switches_by (λ t. t.steps) g.args.value _ g.requires.steps (ap (λ n. n + 1) g.requires.steps))

pub leave_changed-requires-clause-sound : goal.leave_changed-requires-clause-sound
leave_changed-requires-clause-sound g = λ _. given_taken _ g.args.value _ g.requires.inside.0 (switches_soundly_by (λ t. t.steps) g.args.value _ g.requires.steps (ap (λ n. n + 1) g.requires.steps))
