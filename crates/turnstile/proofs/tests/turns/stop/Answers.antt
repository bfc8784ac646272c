use Rattle.std.proofs.Common.{◌+◌, ap}
use Rattle.turnstile.proofs.Turns.{stops_by, stops_soundly_by}
use Rattle.turnstile.proofs.Takings.{given_taken}
use Rattle.turnstile.proofs.tests.turns.stop.Goals as goal

pub leave_stopped-requires-clause-stops : goal.leave_stopped-requires-clause-stops
leave_stopped-requires-clause-stops g = given_taken _ g.args.value _ g.requires.inside.0 (stops_by (λ t. t.steps) g.args.value _ g.requires.steps (ap (λ n. n + 1) g.requires.steps))

pub leave_stopped-requires-clause-sound : goal.leave_stopped-requires-clause-sound
leave_stopped-requires-clause-sound g = λ _. given_taken _ g.args.value _ g.requires.inside.0 (stops_soundly_by (λ t. t.steps) g.args.value _ g.requires.steps (ap (λ n. n + 1) g.requires.steps))
