use Rattle.std.proofs.Common.{◌≡◌, ◌+◌, ◌-◌, ℕ, Bool, true, false, Err, sym, ◌∙◌, ap, arith, subst}
use Rattle.std.proofs.lemmas.Result.{err_from_is_err_and}
use Rattle.doc_stream.specs.Sources.{asked_of}
use Rattle.doc_stream.specs.Shown.{Unsealed}
use Rattle.doc_stream.specs.Steps.{IsNear, IsWithin, Loads, Stops}
use Rattle.doc_stream.proofs.Fills.{near_back, near_on}
use Rattle.doc_stream.proofs.Loads.{cause_damaged, cause_missing}
use Rattle.doc_stream.proofs.Steps.{stops_short, stops_end, stops_unsealed, stops_other, stops_empty, turned}
use Rattle.doc_stream.proofs.Unasked.{missing_memory, short_full}
use Rattle.doc_stream.proofs.reader.Reader.turn.Goals as goal

pub returns-then-ends_at-clause-reason : goal.returns-then-ends_at-clause-reason
returns-then-ends_at-clause-reason g c =
    let asked = asked_of c.args.source.now in
    let file = g.V.View.content c.args.view.now in
    let place = c.args.self.now in
    let end : IsWithin asked.tail asked.end (place.next + 1) → ⊥ = subst (λ (n : ℕ). IsWithin asked.tail asked.end (n + 1) → ⊥) c.next.ensures (c.ends_at.ensures.yes c.if-ends_at.true) in
    cause_damaged g.V.View.tells asked.revision (IsNear asked place 1) (Stops asked file place 1) (g.V.View.faults c.args.view.now) (g.V.View.faults c.args.view.now) (place.next - 1) c.damaged-then-ends_at.result c.damaged-then-ends_at.ensures
    (near_back asked place c.requires.first c.requires.within)
    (λ told. stops_end asked file place (c.has_bytes.ensures.none c.if-has_bytes.false) c.requires.first c.requires.within end)

pub returns-then-not-is_full-clause-reason : goal.returns-then-not-is_full-clause-reason
returns-then-not-is_full-clause-reason g c =
    let asked = asked_of c.args.source.now in
    let file = g.V.View.content c.args.view.now in
    let place = c.args.self.now in
    cause_damaged g.V.View.tells asked.revision (IsNear asked place 1) (Stops asked file place 1) (g.V.View.faults c.args.view.now) (g.V.View.faults c.args.view.now) (place.next - 1) c.damaged.result c.damaged.ensures
    (near_back asked place c.requires.first c.requires.within)
    (λ told. stops_short asked file place (c.has_bytes.ensures.none c.if-has_bytes.false) c.requires.first c.requires.within (c.is_full.ensures.short c.if-not-is_full.true))

pub returns-in_err-load-clause-reason : goal.returns-in_err-load-clause-reason
returns-in_err-load-clause-reason g c =
    let p = err_from_is_err_and c.from_residual.result c.from_residual.ensures.1 in
    let asked = asked_of c.args.source.now in
    let file = g.V.View.content c.args.view.now in
    let place = c.args.self.now in
    let within : IsWithin asked.tail asked.end (place.next + 1) = subst (λ (n : ℕ). IsWithin asked.tail asked.end (n + 1)) c.next.ensures (c.ends_at.ensures.later c.if-ends_at.false) in
    let full = c.is_full.ensures.yes c.if-not-is_full.false in
    rw (p.1, p.2) (cause_missing g.V.View.tells asked.revision place.next (Unsealed asked file place.next) (IsNear asked place 1) (Stops asked file place 1)
    (g.V.View.faults c.args.view.now) (g.V.View.faults c.load.new.view) c.in_err-load.field-0.0 (near_on asked place full within)
    (λ told h. stops_unsealed asked file place (c.has_bytes.ensures.none c.if-has_bytes.false) c.requires.first full within h)
    c.in_err-load.ensures.missing)

pub returns-then-not-branch-clause-reason : goal.returns-then-not-branch-clause-reason
returns-then-not-branch-clause-reason g c =
    let asked = asked_of c.args.source.now in
    let file = g.V.View.content c.args.view.now in
    let place = c.args.self.now in
    let next : c.load.new.self.next ≡ place.next + 1 = c.in_ok-load.ensures.next in
    let block : c.load.new.self.next - 1 ≡ place.next = omega arith in
    let within : IsWithin asked.tail asked.end (place.next + 1) = subst (λ (n : ℕ). IsWithin asked.tail asked.end (n + 1)) c.next.ensures (c.ends_at.ensures.later c.if-ends_at.false) in
    let full = c.is_full.ensures.yes c.if-not-is_full.false in
    cause_damaged g.V.View.tells asked.revision (IsNear asked place 1) (Stops asked file place 1) (g.V.View.faults c.args.view.now) (g.V.View.faults c.load.new.view) (c.load.new.self.next - 1) c.damaged-then-not-branch.result c.damaged-then-not-branch.ensures
    (subst (λ (k : ℕ). IsNear asked place 1 k) (sym block) (near_on asked place full within))
    (λ told.
    let loads : Loads asked file place.next c.load.new.self false = subst (λ (b : Bool). Loads asked file place.next c.load.new.self b) c.if-not-branch.true (c.in_ok-load.ensures.loaded told) in
    let other = loads.1 in
    subst (λ (k : ℕ). Stops asked file place 1 k) (sym block) (stops_other asked file place (c.has_bytes.ensures.none c.if-has_bytes.false) c.requires.first other.0 other.1 full within other.2 other.3))

pub returns-then-not-has_bytes-clause-reason : goal.returns-then-not-has_bytes-clause-reason
returns-then-not-has_bytes-clause-reason g c =
    let asked = asked_of c.args.source.now in
    let file = g.V.View.content c.args.view.now in
    let place = c.args.self.now in
    let next : c.load.new.self.next ≡ place.next + 1 = c.in_ok-load.ensures.next in
    let block : c.load.new.self.next - 1 ≡ place.next = omega arith in
    let within : IsWithin asked.tail asked.end (place.next + 1) = subst (λ (n : ℕ). IsWithin asked.tail asked.end (n + 1)) c.next.ensures (c.ends_at.ensures.later c.if-ends_at.false) in
    let full = c.is_full.ensures.yes c.if-not-is_full.false in
    cause_damaged g.V.View.tells asked.revision (IsNear asked place 1) (Stops asked file place 1) (g.V.View.faults c.args.view.now) (g.V.View.faults c.load.new.view) (c.load.new.self.next - 1) c.damaged-then-not-has_bytes.result c.damaged-then-not-has_bytes.ensures
    (subst (λ (k : ℕ). IsNear asked place 1 k) (sym block) (near_on asked place full within))
    (λ told.
    let loads : Loads asked file place.next c.load.new.self true = subst (λ (b : Bool). Loads asked file place.next c.load.new.self b) c.if-not-branch.false (c.in_ok-load.ensures.loaded told) in
    subst (λ (k : ℕ). Stops asked file place 1 k) (sym block) (stops_empty asked file place (c.has_bytes.ensures.none c.if-has_bytes.false) c.requires.first c.load.new.self.bytes full within (c.has_bytes-2.ensures.none c.if-not-has_bytes.true) loads.1))

pub returns-clause-turned : goal.returns-clause-turned
returns-clause-turned g c told =
    let asked = asked_of c.args.source.now in
    let file = g.V.View.content c.args.view.now in
    let place = c.args.self.now in
    let within : IsWithin asked.tail asked.end (place.next + 1) = subst (λ (n : ℕ). IsWithin asked.tail asked.end (n + 1)) c.next.ensures (c.ends_at.ensures.later c.if-ends_at.false) in
    let loads : Loads asked file place.next c.load.new.self true = subst (λ (b : Bool). Loads asked file place.next c.load.new.self b) c.if-not-branch.false (c.in_ok-load.ensures.loaded told) in
    turned asked file place (c.has_bytes.ensures.none c.if-has_bytes.false) c.requires.first c.load.new.self (c.is_full.ensures.yes c.if-not-is_full.false) c.in_ok-load.ensures.next loads.0 (c.has_bytes-2.ensures.yes c.if-not-has_bytes.false) within loads.1

pub returns-then-ends_at-clause-short : goal.returns-then-ends_at-clause-short
returns-then-ends_at-clause-short g c short = absurd (short_full c.args.self.now (c.is_full.ensures.yes c.if-not-is_full.false) short)

pub returns-in_err-load-clause-short : goal.returns-in_err-load-clause-short
returns-in_err-load-clause-short g c short = absurd (short_full c.args.self.now (c.is_full.ensures.yes c.if-not-is_full.false) short)

pub returns-then-not-branch-clause-short : goal.returns-then-not-branch-clause-short
returns-then-not-branch-clause-short g c short = absurd (short_full c.args.self.now (c.is_full.ensures.yes c.if-not-is_full.false) short)

pub returns-then-not-has_bytes-clause-short : goal.returns-then-not-has_bytes-clause-short
returns-then-not-has_bytes-clause-short g c short = absurd (short_full c.args.self.now (c.is_full.ensures.yes c.if-not-is_full.false) short)

pub returns-clause-short : goal.returns-clause-short
returns-clause-short g c short = absurd (short_full c.args.self.now (c.is_full.ensures.yes c.if-not-is_full.false) short)

pub returns-in_err-load-clause-memory : goal.returns-in_err-load-clause-memory
returns-in_err-load-clause-memory g c =
    let p = err_from_is_err_and c.from_residual.result c.from_residual.ensures.1 in
    let asked = asked_of c.args.source.now in
    let file = g.V.View.content c.args.view.now in
    let at = c.args.self.now.next in
    missing_memory g.V.View.tells asked.revision at (Unsealed asked file at) (g.V.View.faults c.args.view.now) (g.V.View.faults c.load.new.view) c.in_err-load.field-0.0 c.from_residual.result (p.1 ∙ ap Err p.2) c.in_err-load.ensures.missing
