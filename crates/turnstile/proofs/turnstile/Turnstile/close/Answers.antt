use Rattle.std.proofs.Common.{◌≡◌, refl, ◌∙◌, sym, ap, subst}
use Rattle.std.specs.Prelude.{IsSome}
use mathlib.Core.Option.{some-injective}
use Rattle.forest_model.specs.History.{Closes}
use Rattle.turnstile.specs.Passes.{first_of, notes_of}
use Rattle.turnstile.proofs.Keeps.{close_ok, some_is}
use Rattle.turnstile.proofs.turnstile.Turnstile.close.Goals as goal

pub value_of-requires : goal.value_of-requires
value_of-requires g c = let h = g.T.Held in let p = c.args.pass in
    let k = close_ok h.shows h.is_sound h.covers (first_of c.args.self) p.seat.id p.seat.me.0 _ _ c.requires.outside.0 c.requires.all c.close_with-closed.ensures.values.2 in
    let same : k.0 ≡ c.take-berth.result = some-injective k.0 c.take-berth.result (sym k.2 ∙ c.take-berth.ensures.value) in
    subst (λ z. IsSome z) (sym k.3 ∙ ap (λ b. b.value) same) refl

pub returns : goal.returns
returns g c = let h = g.T.Held in let p = c.args.pass in
    let k = close_ok h.shows h.is_sound h.covers (first_of c.args.self) p.seat.id p.seat.me.0 _ _ c.requires.outside.0 c.requires.all c.close_with-closed.ensures.values.2 in
    let same : k.0 ≡ c.take-berth.result = some-injective k.0 c.take-berth.result (sym k.2 ∙ c.take-berth.ensures.value) in
    let now : k.1 ≡ c.value_of.result = some_is k.1 c.value_of.result (sym k.3 ∙ (ap (λ b. b.value) same ∙ c.value_of.ensures)) in
    record { told = subst (λ z. Closes h.shows h.is_sound h.covers (first_of c.args.self) z (notes_of p)) now k.4 }
