use Rattle.std.proofs.Common.{◌≡◌, ◌⊎◌, inl, inr, ℕ, List, IsTrue, Option, Some, None, Ok, Err, refl, sym, ◌∙◌, ap, arith, rules}
use Rattle.std.proofs.lemmas.Option.{same_Some}
use Rattle.std.proofs.lemmas.Result.{err_from_is_err_and}
use Rattle.block_host.specs.Disk.{not_told}
use Rattle.forest_model.specs.declared.refusal.Refusal.{Refusal}
use Rattle.header_chain.specs.Chain.{BreaksLink}
use Rattle.header_chain.proofs.Once.{before_once, broken_by, broken_none, found_none, found_some, never_broken, reason_before, refused_by, refused_never}
use Rattle.header_chain.proofs.walk.before.Goals as goal

pub returns-in_err-before-clause-reason : goal.returns-in_err-before-clause-reason
returns-in_err-before-clause-reason g c =
    let p = err_from_is_err_and c.from_residual.result c.from_residual.ensures.1 in
    let file = g.V.View.content c.args.view.now in
    rw (p.1, p.2) (reason_before g.V.View.tells c.args.rev file file c.in-Some.at (g.V.View.faults c.args.view.now) (g.V.View.faults c.args.view.now) (g.V.View.faults c.header_at.new.view) c.in_err-before.field-0.0 (λ told. refl) refl
    c.args.header.now c.in-Some.is c.in_err-before.ensures.reason)

pub returns-in_err-before-clause-exact : goal.returns-in_err-before-clause-exact
returns-in_err-before-clause-exact g c told found is =
    let p = err_from_is_err_and c.from_residual.result c.from_residual.ensures.1 in
    let file = g.V.View.content c.args.view.now in
    refused_never c.args.rev (g.V.View.faults c.args.view.now) (g.V.View.faults c.header_at.new.view) (λ block. (c.args.header.now.previous ≡ Some block) × (IsTrue g.V.View.tells → BreaksLink c.args.rev file c.args.header.now block)) c.in_err-before.field-0.0 c.from_residual.result (p.1 ∙ ap Err p.2) found
    (λ block breaks. never_broken c.args.rev file c.args.header.now found block is (breaks.1 told))
    (reason_before g.V.View.tells c.args.rev file file c.in-Some.at (g.V.View.faults c.args.view.now) (g.V.View.faults c.args.view.now) (g.V.View.faults c.header_at.new.view) c.in_err-before.field-0.0 (λ told. refl) refl
    c.args.header.now c.in-Some.is c.in_err-before.ensures.reason)

pub returns-in_err-before-clause-damaged : goal.returns-in_err-before-clause-damaged
returns-in_err-before-clause-damaged g c told block is =
    let p = err_from_is_err_and c.from_residual.result c.from_residual.ensures.1 in
    let file = g.V.View.content c.args.view.now in
    refused_by c.args.rev (g.V.View.faults c.args.view.now) (g.V.View.faults c.header_at.new.view) (λ n. (c.args.header.now.previous ≡ Some n) × (IsTrue g.V.View.tells → BreaksLink c.args.rev file c.args.header.now n)) c.in_err-before.field-0.0 c.from_residual.result (p.1 ∙ ap Err p.2) block
    (λ n breaks. same_Some n block (sym breaks.0 ∙ is.links))
    (reason_before g.V.View.tells c.args.rev file file c.in-Some.at (g.V.View.faults c.args.view.now) (g.V.View.faults c.args.view.now) (g.V.View.faults c.header_at.new.view) c.in_err-before.field-0.0 (λ told. refl) refl
    c.args.header.now c.in-Some.is c.in_err-before.ensures.reason)

-- the block of the link has no header, or one that may not stand there
pub returns-in_default-2-clause-reason : goal.returns-in_default-2-clause-reason
returns-in_default-2-clause-reason g c =
    let file = g.V.View.content c.args.view.now in
    inr (
      c.in-Some.at,
      refl,
      (c.in-Some.is, λ told. broken_none c.args.rev file c.args.header.now c.in-Some.at c.in-Some.is (found_none c.args.rev file c.in-Some.at c.in_ok-before.field-0 c.in_default-2.not-Some (c.in_ok-before.ensures.here told))),
    )

pub returns-in_default-2-clause-exact : goal.returns-in_default-2-clause-exact
returns-in_default-2-clause-exact g c told found is =
    let file = g.V.View.content c.args.view.now in
    absurd (never_broken c.args.rev file c.args.header.now found c.in-Some.at is (broken_none c.args.rev file c.args.header.now c.in-Some.at c.in-Some.is (found_none c.args.rev file c.in-Some.at c.in_ok-before.field-0 c.in_default-2.not-Some (c.in_ok-before.ensures.here told))))

pub returns-then-not-may_precede-clause-reason : goal.returns-then-not-may_precede-clause-reason
returns-then-not-may_precede-clause-reason g c =
    let file = g.V.View.content c.args.view.now in
    inr (
      c.in-Some.at,
      refl,
      (
        c.in-Some.is,
        λ told. broken_by c.header_is_one.ensures c.args.rev file c.args.header.now c.in-Some.at c.in-Some-2.before c.in-Some.is
            (found_some c.args.rev file c.in-Some.at c.in_ok-before.field-0 c.in-Some-2.before c.in-Some-2.is (c.in_ok-before.ensures.here told))
            (λ lower fewer. let yes = c.may_precede.ensures.only lower fewer in let none = c.if-not-may_precede.true in not_told (sym none ∙ yes)),
      ),
    )

pub returns-then-not-may_precede-clause-exact : goal.returns-then-not-may_precede-clause-exact
returns-then-not-may_precede-clause-exact g c told found is =
    let file = g.V.View.content c.args.view.now in
    absurd (never_broken c.args.rev file c.args.header.now found c.in-Some.at is
    (broken_by c.header_is_one.ensures c.args.rev file c.args.header.now c.in-Some.at c.in-Some-2.before c.in-Some.is
    (found_some c.args.rev file c.in-Some.at c.in_ok-before.field-0 c.in-Some-2.before c.in-Some-2.is (c.in_ok-before.ensures.here told))
    (λ lower fewer. let yes = c.may_precede.ensures.only lower fewer in let none = c.if-not-may_precede.true in not_told (sym none ∙ yes))))

pub returns-clause-exact : goal.returns-clause-exact
returns-clause-exact g c told found is =
    let file = g.V.View.content c.args.view.now in
    let may = c.may_precede.ensures.yes c.if-not-may_precede.false in
    inl (ap Ok (before_once c.header_is_one.ensures c.args.rev file c.args.header.now (Some (c.in-Some.at, c.in-Some-2.before)) found
    ((c.in-Some.is, may.0, may.1), found_some c.args.rev file c.in-Some.at c.in_ok-before.field-0 c.in-Some-2.before c.in-Some-2.is (c.in_ok-before.ensures.here told)) is))
