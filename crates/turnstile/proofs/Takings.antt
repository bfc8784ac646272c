-- The value that a pass has taken.
use Rattle.std.proofs.Common.{◌≡◌, refl, sym, subst}
use Rattle.std.specs.Prelude.{Option, Some, None}
use Rattle.turnstile.specs.Passes.{OfTaken}

pub of_taken : {T : Type 0} (o : Option T) (P : T → Type 0) → OfTaken o P → (t : T) × (o ≡ Some t) × P t
of_taken None P h = absurd h
of_taken (Some t) P h = (t, refl, h)

pub taken_is : {T : Type 0} (o : Option T) (t : T) (P : T → Type 0) → o ≡ Some t → OfTaken o P → P t
taken_is o t P e h = subst (λ z. OfTaken z P) e h

pub given_taken : {T : Type 0} (o : Option T) (t : T) (P : T → Type 0) → o ≡ Some t → P t → OfTaken o P
given_taken o t P e h = subst (λ z. OfTaken z P) (sym e) h
