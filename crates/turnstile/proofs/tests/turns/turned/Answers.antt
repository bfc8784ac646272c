use Rattle.std.proofs.Common.{refl}
use Rattle.turnstile.proofs.Turns.{starts_by}
use Rattle.turnstile.proofs.tests.turns.turned.Goals as goal

pub new-requires : goal.new-requires
new-requires g c = starts_by (λ t. t.steps) _ refl
