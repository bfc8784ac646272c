use Rattle.std.proofs.Common.{◌+◌, ◌-◌, List, ◌++◌, Err, refl, sym, ◌∙◌, ap, arith, rules, subst}
use Rattle.std.proofs.lemmas.Result.{err_from_is_err_and}
use Rattle.block_host.specs.declared.block.Block.{Block}
use Rattle.forest_model.specs.declared.stored.Rec.{Rec}
use Rattle.forest_model.specs.declared.refusal.Refusal.TheVariants as Refusal
use Rattle.doc_stream.specs.Broken.{IsHead}
use Rattle.doc_stream.specs.Sources.{asked_of}
use Rattle.doc_stream.specs.Steps.{IsNear, Takes, Stops, StopsRecord}
use Rattle.doc_stream.proofs.Loads.{cause_of, cause_damaged}
use Rattle.doc_stream.proofs.Fills.{moved_both, near_after, near_here, near_more}
use Rattle.doc_stream.proofs.RecordBytes.{stops_head, stops_kind, stops_parts, takes_record, stops_form}
use Rattle.doc_stream.proofs.Unasked.{err_other, has_head, short_moved}
use Rattle.doc_stream.proofs.reader.Reader.record.Goals as goal

pub returns-in_err-fill-clause-reason : goal.returns-in_err-fill-clause-reason
returns-in_err-fill-clause-reason g c =
    let p = err_from_is_err_and c.from_residual.result c.from_residual.ensures.1 in
    let asked = asked_of c.args.source.now in
    let file = g.V.View.content c.args.view.now in
    rw (p.1, p.2) (cause_of g.V.View.tells asked.revision (IsNear asked c.args.self.now 24) (IsNear asked c.args.self.now 1052355) (Stops asked file c.args.self.now 24) (StopsRecord asked file c.args.self.now)
    (g.V.View.faults c.args.view.now) (g.V.View.faults c.args.view.now) (g.V.View.faults c.fill.new.view) c.in_err-fill.field-0.0 (omega arith)
    (λ n near. near_more asked c.args.self.now 24 1052355 n (omega arith) near)
    (λ told n near h. stops_head asked file c.args.self.now n h)
    c.in_err-fill.ensures.reason)

pub returns-in_default-clause-reason : goal.returns-in_default-clause-reason
returns-in_default-clause-reason g c =
    let asked = asked_of c.args.source.now in
    let file = g.V.View.content c.args.view.now in
    let mid = c.fill.new.self in
    let moved = c.in_ok-fill.ensures.moved in
    let later = moved.later in
    let first = c.requires.first in
    cause_damaged g.V.View.tells asked.revision (IsNear asked c.args.self.now 1052355) (StopsRecord asked file c.args.self.now) (g.V.View.faults c.args.view.now) (g.V.View.faults c.fill.new.view) (mid.next - 1) c.damaged.result c.damaged.ensures
    (near_here asked c.args.self.now mid 24 1052355 (omega arith) moved (omega arith))
    (λ told. stops_kind asked file c.args.self.now mid c.fill.new.out c.fill.auto.out (c.in_ok-fill.ensures.taken told) (omega arith) moved.within c.in_default.ensures.none)

pub returns-in_err-key-clause-reason : goal.returns-in_err-key-clause-reason
returns-in_err-key-clause-reason g c =
    let p = err_from_is_err_and c.from_residual-in_err-key.result c.from_residual-in_err-key.ensures.1 in
    let asked = asked_of c.args.source.now in
    let file = g.V.View.content c.args.view.now in
    let head = c.in-Some.head in
    let small = c.in-Some.ensures.small in
    let key = small.0 in
    let body = small.2 in
    let numbers = c.in-Some.ensures.numbers in
    let count = head.key + head.meta + head.body in
    let same = c.in_ok-fill.ensures.untroubled in
    let meta = small.1 in
    rw (p.1, p.2) (cause_of g.V.View.tells asked.revision (IsNear asked c.fill.new.self count) (IsNear asked c.args.self.now 1052355) (Stops asked (g.V.View.content c.fill.new.view) c.fill.new.self count) (StopsRecord asked file c.args.self.now)
    (g.V.View.faults c.args.view.now) (g.V.View.faults c.fill.new.view) (g.V.View.faults c.parts.new.view) c.in_err-key.field-0.0 (omega arith)
    (λ n near. near_after asked c.args.self.now c.fill.new.self 24 count 1052355 n c.in_ok-fill.ensures.moved (omega arith) near)
    (λ told n near h. stops_parts asked file c.args.self.now c.fill.new.self c.fill.new.out c.fill.auto.out (c.in_ok-fill.ensures.taken told) head.kind head.meta head.key head.body head.store head.seq
    (omega arith) (omega arith) numbers.0 numbers.1 c.in-Some.ensures.head c.in-Some.ensures.allowed count n (omega arith) (subst (λ (f : List Block). Stops asked f c.fill.new.self count n) (c.in_ok-fill.ensures.content told) h))
    c.in_err-key.ensures.reason)

pub returns-then-not-has_form-clause-reason : goal.returns-then-not-has_form-clause-reason
returns-then-not-has_form-clause-reason g c =
    let asked = asked_of c.args.source.now in
    let file = g.V.View.content c.args.view.now in
    let head = c.in-Some.head in
    let small = c.in-Some.ensures.small in
    let key = small.0 in
    let body = small.2 in
    let numbers = c.in-Some.ensures.numbers in
    let rec : Rec = record { kind = head.kind; store = head.store; seq = head.seq; key = c.in_ok-key.key; meta = c.in_ok-key.meta; body = c.in_ok-key.body } in
    let new = c.parts.new.self in
    let moved = c.in_ok-key.ensures.moved in
    let later = moved.later in
    let earlier = c.in_ok-fill.ensures.moved in
    let earlier_later = earlier.later in
    let first = c.requires.first in
    let meta = small.1 in
    let count = head.key + head.meta + head.body in
    let both = moved_both asked c.args.self.now c.fill.new.self new 24 count earlier moved in
    cause_damaged g.V.View.tells asked.revision (IsNear asked c.args.self.now 1052355) (StopsRecord asked file c.args.self.now) (g.V.View.faults c.args.view.now) (g.V.View.faults c.parts.new.view) (new.next - 1) c.damaged-then-not-has_form.result c.damaged-then-not-has_form.ensures
    (near_here asked c.args.self.now new (24 + count) 1052355 (omega arith) both (omega arith))
    (λ told. stops_form asked file c.args.self.now c.fill.new.self c.fill.new.out c.fill.auto.out (c.in_ok-fill.ensures.taken told) head.kind head.meta head.key head.body head.store head.seq
    (omega arith) (omega arith) numbers.0 numbers.1 c.in-Some.ensures.head new rec refl c.in_ok-key.ensures.meta c.in_ok-key.ensures.key c.in_ok-key.ensures.body refl refl
    (subst (λ (f : List Block). Takes asked f c.fill.new.self new (rec.key ++ rec.meta ++ rec.body)) (c.in_ok-fill.ensures.content told) (c.in_ok-key.ensures.taken told))
    c.in-Some.ensures.allowed (omega arith) moved.within (sym c.has_form.ensures ∙ c.if-not-has_form.true))

pub returns-clause-moved : goal.returns-clause-moved
returns-clause-moved g c =
    let asked = asked_of c.args.source.now in
    let head = c.in-Some.head in
    let small = c.in-Some.ensures.small in
    let key = small.0 in
    let meta = small.1 in
    let body = small.2 in
    let count = head.key + head.meta + head.body in
    (24 + count, omega arith, omega arith, moved_both asked c.args.self.now c.fill.new.self c.parts.new.self 24 count c.in_ok-fill.ensures.moved c.in_ok-key.ensures.moved)

pub returns-clause-taken : goal.returns-clause-taken
returns-clause-taken g c told =
    let asked = asked_of c.args.source.now in
    let file = g.V.View.content c.args.view.now in
    let head = c.in-Some.head in
    let small = c.in-Some.ensures.small in
    let key = small.0 in
    let body = small.2 in
    let numbers = c.in-Some.ensures.numbers in
    let rec : Rec = record { kind = head.kind; store = head.store; seq = head.seq; key = c.in_ok-key.key; meta = c.in_ok-key.meta; body = c.in_ok-key.body } in
    let new = c.parts.new.self in
    takes_record asked file c.args.self.now c.fill.new.self c.fill.new.out c.fill.auto.out (c.in_ok-fill.ensures.taken told) head.kind head.meta head.key head.body head.store head.seq
    (omega arith) (omega arith) numbers.0 numbers.1 c.in-Some.ensures.head new rec refl c.in_ok-key.ensures.meta c.in_ok-key.ensures.key c.in_ok-key.ensures.body refl refl
    (subst (λ (f : List Block). Takes asked f c.fill.new.self new (rec.key ++ rec.meta ++ rec.body)) (c.in_ok-fill.ensures.content told) (c.in_ok-key.ensures.taken told))

pub returns-in_err-fill-clause-short : goal.returns-in_err-fill-clause-short
returns-in_err-fill-clause-short g c is =
    let p = err_from_is_err_and c.from_residual.result c.from_residual.ensures.1 in
    let now = c.in_err-fill.ensures.short is in
    (now.0, err_other c.in_err-fill.field-0.0 Refusal.DiskFault c.from_residual.result (p.1 ∙ ap Err p.2) now.1)

pub returns-in_err-fill-clause-memory : goal.returns-in_err-fill-clause-memory
returns-in_err-fill-clause-memory g c told same =
    let p = err_from_is_err_and c.from_residual.result c.from_residual.ensures.1 in
    absurd (err_other c.in_err-fill.field-0.0 Refusal.NoMemory c.from_residual.result (p.1 ∙ ap Err p.2) c.in_err-fill.ensures.memory same)

pub returns-in_err-key-clause-short : goal.returns-in_err-key-clause-short
returns-in_err-key-clause-short g c is =
    let p = err_from_is_err_and c.from_residual-in_err-key.result c.from_residual-in_err-key.ensures.1 in
    let now = c.in_err-key.ensures.short (short_moved (asked_of c.args.source.now) c.args.self.now c.fill.new.self 24 24 c.in_ok-fill.ensures.moved is) in
    (now.0 ∙ (c.in_ok-fill.ensures.short is).0, err_other c.in_err-key.field-0.0 Refusal.DiskFault c.from_residual-in_err-key.result (p.1 ∙ ap Err p.2) now.1)

pub returns-in_err-key-clause-memory : goal.returns-in_err-key-clause-memory
returns-in_err-key-clause-memory g c told same =
    let asked = asked_of c.args.source.now in
    let file = g.V.View.content c.args.view.now in
    let h = c.in-Some.head in
    let is : IsHead c.fill.new.out (h.key + h.meta + h.body) = record { kind = h.kind; meta = h.meta; key = h.key; body = h.body; store = h.store; seq = h.seq; allowed = c.in-Some.ensures.allowed; behind = refl; is = c.in-Some.ensures.head } in
    has_head asked file c.args.self.now c.fill.new.self c.fill.new.out (h.key + h.meta + h.body) is (c.in_ok-fill.ensures.taken told)

pub returns-then-not-has_form-clause-short : goal.returns-then-not-has_form-clause-short
returns-then-not-has_form-clause-short g c is =
    let now = c.in_ok-key.ensures.short (short_moved (asked_of c.args.source.now) c.args.self.now c.fill.new.self 24 24 c.in_ok-fill.ensures.moved is) in
    (now.0 ∙ (c.in_ok-fill.ensures.short is).0, search rules)

pub returns-clause-short : goal.returns-clause-short
returns-clause-short g c is =
    let now = c.in_ok-key.ensures.short (short_moved (asked_of c.args.source.now) c.args.self.now c.fill.new.self 24 24 c.in_ok-fill.ensures.moved is) in
    (now.0 ∙ (c.in_ok-fill.ensures.short is).0, λ same. cc)

pub returns-clause-head : goal.returns-clause-head
returns-clause-head g c told =
    let asked = asked_of c.args.source.now in
    let file = g.V.View.content c.args.view.now in
    let h = c.in-Some.head in
    let is : IsHead c.fill.new.out (h.key + h.meta + h.body) = record { kind = h.kind; meta = h.meta; key = h.key; body = h.body; store = h.store; seq = h.seq; allowed = c.in-Some.ensures.allowed; behind = refl; is = c.in-Some.ensures.head } in
    has_head asked file c.args.self.now c.fill.new.self c.fill.new.out (h.key + h.meta + h.body) is (c.in_ok-fill.ensures.taken told)
