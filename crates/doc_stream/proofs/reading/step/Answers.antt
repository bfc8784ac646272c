use Rattle.std.proofs.Common.{◌<◌, ◌-◌, ℕ, [], ◌∷◌, ◌++◌, length, Err, inr, sym, ◌∙◌, arith, ap}
use Rattle.std.proofs.lemmas.Result.{err_from_is_err_and}
use Rattle.std.proofs.lemmas.List.{append-nil}
use Rattle.forest_model.specs.declared.refusal.Refusal.TheVariants as Refusal
use Rattle.doc_stream.specs.OpenBlock.{address_of}
use Rattle.doc_stream.specs.Scans.{BreaksRest, IsAhead}
use Rattle.doc_stream.specs.Sources.{asked_of}
use Rattle.doc_stream.specs.Shown.{Unsealed}
use Rattle.doc_stream.specs.Steps.{IsNear, StopsRecord}
use Rattle.doc_stream.proofs.AddressReads.{missing_why}
use Rattle.doc_stream.proofs.Loads.{cause_missing, cause_of, shown_loaded}
use Rattle.doc_stream.proofs.RangeScans.{ahead_near, before_end, breaks_unsealed, breaks_record, head_behind, scans_loaded, scans_record}
use Rattle.doc_stream.proofs.Unasked.{missing_memory, same_other}
use Rattle.doc_stream.proofs.reading.step.Goals as goal

pub returns-in_err-load-clause-reason : goal.returns-in_err-load-clause-reason
returns-in_err-load-clause-reason g c =
    let p = err_from_is_err_and c.from_residual.result c.from_residual.ensures.1 in
    let asked = asked_of c.args.source.now in
    let file = g.V.View.content c.args.view.now in
    let old = c.args.reader.now in
    let within : old.next < asked.end = before_end old.next asked.end (length old.bytes) c.requires.some (ap length (c.has_bytes.ensures.none c.if-not-has_bytes.true)) in
    let empty = c.has_bytes.ensures.none c.if-not-has_bytes.true in
    rw (p.1, p.2) (cause_missing g.V.View.tells asked.revision old.next (Unsealed asked file old.next) (IsAhead asked old) (BreaksRest asked file old)
    (g.V.View.faults c.args.view.now) (g.V.View.faults c.load.new.view) c.in_err-load.field-0.0 (record { reached = inr (omega arith); behind = omega arith; within = omega arith })
    (λ told h. breaks_unsealed asked c.requires.range file old empty within h)
    c.in_err-load.ensures.missing)

pub returns-in_err-load-clause-memory : goal.returns-in_err-load-clause-memory
returns-in_err-load-clause-memory g c none =
    let p = err_from_is_err_and c.from_residual.result c.from_residual.ensures.1 in
    let asked = asked_of c.args.source.now in
    let file = g.V.View.content c.args.view.now in
    let old = c.args.reader.now in
    rw (p.1, p.2) (missing_why g.V.View.tells asked.revision old.next (Unsealed asked file old.next) (g.V.View.faults c.args.view.now) (g.V.View.faults c.load.new.view) c.in_err-load.field-0.0 c.in_err-load.ensures.missing)

pub returns-then-not-has_bytes-clause-shown : goal.returns-then-not-has_bytes-clause-shown
returns-then-not-has_bytes-clause-shown g c told none =
    let asked = asked_of c.args.source.now in
    let file = g.V.View.content c.args.view.now in
    shown_loaded asked file c.args.reader.now.next c.load.new.self c.in_ok-load.field-0 (c.in_ok-load.ensures.loaded told)

pub returns-then-not-has_bytes-clause-scanned : goal.returns-then-not-has_bytes-clause-scanned
returns-then-not-has_bytes-clause-scanned g c told =
    let asked = asked_of c.args.source.now in
    let file = g.V.View.content c.args.view.now in
    let old = c.args.reader.now in
    let empty = c.has_bytes.ensures.none c.if-not-has_bytes.true in
    let within : old.next < asked.end = before_end old.next asked.end (length old.bytes) c.requires.some (ap length empty) in
    ([], sym (append-nil c.args.records.now), scans_loaded asked c.requires.range file old c.load.new.self empty c.in_ok-load.ensures.next within c.in_ok-load.field-0 (c.in_ok-load.ensures.loaded told))

pub returns-in_err-record-clause-reason : goal.returns-in_err-record-clause-reason
returns-in_err-record-clause-reason g c =
    let p = err_from_is_err_and c.from_residual-in_err-record.result c.from_residual-in_err-record.ensures.1 in
    let asked = asked_of c.args.source.now in
    let file = g.V.View.content c.args.view.now in
    let old = c.args.reader.now in
    let some = c.has_bytes.ensures.yes c.if-not-has_bytes.false in
    let first = (c.requires.ready some).0 in
    rw (p.1, p.2) (cause_of g.V.View.tells asked.revision (IsNear asked old 1052355) (IsAhead asked old) (StopsRecord asked file old) (BreaksRest asked file old)
    (g.V.View.faults c.args.view.now) (g.V.View.faults c.args.view.now) (g.V.View.faults c.record.new.view) c.in_err-record.field-0.0 (omega arith)
    (λ n near. ahead_near asked c.requires.range old n some near)
    (λ told n near h. breaks_record asked c.requires.range file old first some n h)
    c.in_err-record.ensures.reason)

pub returns-clause-scanned : goal.returns-clause-scanned
returns-clause-scanned g c told =
    let asked = asked_of c.args.source.now in
    let file = g.V.View.content c.args.view.now in
    let old = c.args.reader.now in
    let rec = c.in_ok-record.record in
    let some = c.has_bytes.ensures.yes c.if-not-has_bytes.false in (
      (address_of (old.next - 1) old.offset, rec) ∷ [],
      c.in_ok-push.ensures.ok ∙ ap (λ (a : ℕ). c.args.records.now ++ (a, rec) ∷ []) c.address-address.ensures,
      scans_record asked c.requires.range file old (c.requires.ready some).0 some c.record.new.self rec c.in_ok-record.ensures.is_record (c.in_ok-record.ensures.taken told),
    )

pub returns-in_err-load-clause-head : goal.returns-in_err-load-clause-head
returns-in_err-load-clause-head g c told same =
    let p = err_from_is_err_and c.from_residual.result c.from_residual.ensures.1 in
    let asked = asked_of c.args.source.now in
    let file = g.V.View.content c.args.view.now in
    let old = c.args.reader.now in
    absurd (missing_memory g.V.View.tells asked.revision old.next (Unsealed asked file old.next) (g.V.View.faults c.args.view.now) (g.V.View.faults c.load.new.view) c.in_err-load.field-0.0 c.from_residual.result
    (p.1 ∙ ap Err p.2) c.in_err-load.ensures.missing same)

pub returns-in_err-record-clause-head : goal.returns-in_err-record-clause-head
returns-in_err-record-clause-head g c told same =
    let p = err_from_is_err_and c.from_residual-in_err-record.result c.from_residual-in_err-record.ensures.1 in
    let asked = asked_of c.args.source.now in
    let file = g.V.View.content c.args.view.now in
    let old = c.args.reader.now in
    let some = c.has_bytes.ensures.yes c.if-not-has_bytes.false in
    let ready = c.requires.ready some in
    head_behind asked c.requires.range file old ready.0 some ready.1 (c.in_err-record.ensures.memory told (same_other c.in_err-record.field-0.0 Refusal.NoMemory c.from_residual-in_err-record.result (p.1 ∙ ap Err p.2) same))

pub returns-in_err-push-clause-head : goal.returns-in_err-push-clause-head
returns-in_err-push-clause-head g c told same =
    let asked = asked_of c.args.source.now in
    let file = g.V.View.content c.args.view.now in
    let old = c.args.reader.now in
    let some = c.has_bytes.ensures.yes c.if-not-has_bytes.false in
    let ready = c.requires.ready some in
    head_behind asked c.requires.range file old ready.0 some ready.1 (c.in_ok-record.ensures.head told)
