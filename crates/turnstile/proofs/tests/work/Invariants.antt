use Rattle.std.proofs.Common.{◌≡◌}
use Rattle.turnstile.specs.Passes.{IsPassOf, IsOutside, shares_of}
use Rattle.turnstile.proofs.tests.work.Given as goal

abbrev pub invariant-loop : goal.invariant-loop
invariant-loop g l = IsPassOf l.fn.turnstile l.pass × IsOutside l.pass × (shares_of l.pass ≡ shares_of l.fn.pass)
