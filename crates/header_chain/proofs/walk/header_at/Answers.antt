use Rattle.std.proofs.Common.{◌≡◌, ◌⊎◌, inl, inr, refl}
use Rattle.header_chain.proofs.Read.{header_in, ill_in, none_other}
use Rattle.header_chain.proofs.walk.header_at.Goals as goal

pub returns-then-kind-ne-HEADER-clause-here : goal.returns-then-kind-ne-HEADER-clause-here
returns-then-kind-ne-HEADER-clause-here g c told =
    none_other c.args.rev (g.V.View.content c.args.view.now) c.args.at c.read.new.out (c.in-Ok.ensures.given told) c.in-Some.kind c.in-Some.payload.now c.in-Some.ensures c.if-kind-ne-HEADER.true

pub returns-in_default-header_of-clause-reason : goal.returns-in_default-header_of-clause-reason
returns-in_default-header_of-clause-reason g c =
    inr (
      refl,
      λ told. ill_in c.args.rev (g.V.View.content c.args.view.now) c.args.at c.read.new.out (c.in-Ok.ensures.given told) c.in-Some.kind c.in-Some.payload.now c.in-Some.ensures c.if-kind-ne-HEADER.false
          (λ h bytes formed. c.in_default-header_of.not-Some h (c.header_of.ensures.only h bytes formed)),
    )

pub returns-clause-here : goal.returns-clause-here
returns-clause-here g c told =
    let cases = c.in-Some-header_of.ensures.cases in
    header_in c.args.rev (g.V.View.content c.args.view.now) c.args.at c.read.new.out (c.in-Ok.ensures.given told) c.in-Some.kind c.in-Some.payload.now c.in-Some-header_of.header c.in-Some.ensures c.if-kind-ne-HEADER.false cases.0 cases.1
