use Rattle.std.proofs.Common.{◌≡◌, ◌⊎◌, inl, inr, ℕ, ◌+◌, ◌-◌, ◌≤◌, IsTrue, Ok, Err, refl, sym, ◌∙◌, ap, arith}
use Rattle.std.proofs.lemmas.Result.{err_from_is_err_and}
use Rattle.forest_model.specs.declared.refusal.Refusal.{Refusal}
use Rattle.header_chain.specs.Chain.{HasNoLast}
use Rattle.header_chain.proofs.Once.{found_some, last_here, last_once, never_both, no_last_once, reason_last, refused_by, refused_never, sealed_header}
use Rattle.header_chain.proofs.walk.last.Goals as goal

pub returns-in_err-header-clause-reason : goal.returns-in_err-header-clause-reason
returns-in_err-header-clause-reason g c =
    let p = err_from_is_err_and c.from_residual.result c.from_residual.ensures.1 in
    let inv = c.loop-left.invariant in
    let next : c.loop-left.left ≡ c.loop-left.left - 1 + 1 = omega arith in
    rw (p.1, p.2) (reason_last g.V.View.tells c.args.rev (g.V.View.content c.args.view.now) (g.V.View.content c.loop-left.view) (c.loop-left.left - 1) (g.V.View.faults c.args.view.now) (g.V.View.faults c.loop-left.view) (g.V.View.faults c.header_at.new.view)
    c.in_err-header.field-0.0 inv.content inv.untroubled c.loop-left.left next inv.none c.in_err-header.ensures.reason)

pub returns-in_err-header-clause-exact : goal.returns-in_err-header-clause-exact
returns-in_err-header-clause-exact g c told last is =
    let p = err_from_is_err_and c.from_residual.result c.from_residual.ensures.1 in
    let inv = c.loop-left.invariant in
    let file = g.V.View.content c.args.view.now in
    let next : c.loop-left.left ≡ c.loop-left.left - 1 + 1 = omega arith in
    refused_never c.args.rev (g.V.View.faults c.args.view.now) (g.V.View.faults c.header_at.new.view) (λ block. IsTrue g.V.View.tells → HasNoLast c.args.rev file block) c.in_err-header.field-0.0 c.from_residual.result (p.1 ∙ ap Err p.2) last
    (λ block breaks. never_both c.args.rev file last block is (breaks told))
    (reason_last g.V.View.tells c.args.rev file (g.V.View.content c.loop-left.view) (c.loop-left.left - 1) (g.V.View.faults c.args.view.now) (g.V.View.faults c.loop-left.view) (g.V.View.faults c.header_at.new.view)
    c.in_err-header.field-0.0 inv.content inv.untroubled c.loop-left.left next inv.none c.in_err-header.ensures.reason)

pub returns-in_err-header-clause-damaged : goal.returns-in_err-header-clause-damaged
returns-in_err-header-clause-damaged g c told block is =
    let p = err_from_is_err_and c.from_residual.result c.from_residual.ensures.1 in
    let inv = c.loop-left.invariant in
    let file = g.V.View.content c.args.view.now in
    let next : c.loop-left.left ≡ c.loop-left.left - 1 + 1 = omega arith in
    refused_by c.args.rev (g.V.View.faults c.args.view.now) (g.V.View.faults c.header_at.new.view) (λ n. IsTrue g.V.View.tells → HasNoLast c.args.rev file n) c.in_err-header.field-0.0 c.from_residual.result (p.1 ∙ ap Err p.2) block
    (λ n breaks. no_last_once c.args.rev file n block (breaks told) is)
    (reason_last g.V.View.tells c.args.rev file (g.V.View.content c.loop-left.view) (c.loop-left.left - 1) (g.V.View.faults c.args.view.now) (g.V.View.faults c.loop-left.view) (g.V.View.faults c.header_at.new.view)
    c.in_err-header.field-0.0 inv.content inv.untroubled c.loop-left.left next inv.none c.in_err-header.ensures.reason)

pub returns-in-Some-clause-last : goal.returns-in-Some-clause-last
returns-in-Some-clause-last g c told =
    let inv = c.loop-left.invariant in
    let at = c.loop-left.left - 1 in
    let next : c.loop-left.left ≡ c.loop-left.left - 1 + 1 = omega arith in
    last_here c.args.rev (g.V.View.content c.args.view.now) (g.V.View.content c.loop-left.view) c.loop-left.left at c.in-Some.header (inv.content told) next (inv.none told)
    (found_some c.args.rev (g.V.View.content c.loop-left.view) at c.in_ok-header.field-0 c.in-Some.header c.in-Some.is (c.in_ok-header.ensures.here told))

pub returns-in-Some-clause-exact : goal.returns-in-Some-clause-exact
returns-in-Some-clause-exact g c told last is =
    inl (ap Ok (last_once c.header_is_one.ensures c.args.rev (g.V.View.content c.args.view.now) (c.loop-left.left - 1, c.in-Some.header) last (returns-in-Some-clause-last g c told) is))

pub returns-in-Some-clause-damaged : goal.returns-in-Some-clause-damaged
returns-in-Some-clause-damaged g c told block is =
    absurd (never_both c.args.rev (g.V.View.content c.args.view.now) (c.loop-left.left - 1, c.in-Some.header) block (returns-in-Some-clause-last g c told) is)

pub returns-clause-exact : goal.returns-clause-exact
returns-clause-exact g c told last is =
    absurd (c.loop-left.invariant.none told last.0 (omega arith) (sealed_header c.args.rev (g.V.View.content c.args.view.now) last.0 last.1 is.header))

pub returns-clause-reason : goal.returns-clause-reason
returns-clause-reason g c = inr (0, refl, λ told. inr (refl, λ at there. c.loop-left.invariant.none told at (omega arith) there))

pub returns-clause-damaged : goal.returns-clause-damaged
returns-clause-damaged g c told block is =
    inl (ap (λ (n : ℕ). Err (Refusal.Damaged c.args.rev n)) (no_last_once c.args.rev (g.V.View.content c.args.view.now) 0 block (inr (refl, λ at there. c.loop-left.invariant.none told at (omega arith) there)) is))
