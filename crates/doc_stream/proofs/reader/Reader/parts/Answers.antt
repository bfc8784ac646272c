use Rattle.std.proofs.Common.{◌≡◌, ◌+◌, ◌++◌, length, Err, ◌∙◌, ap, arith}
use Rattle.std.proofs.lemmas.Result.{err_from_is_err_and}
use Rattle.std.proofs.Common.{length-append}
use Rattle.forest_model.specs.declared.refusal.Refusal.TheVariants as Refusal
use Rattle.doc_stream.specs.Sources.{asked_of}
use Rattle.doc_stream.specs.Steps.{IsNear, Stops}
use Rattle.doc_stream.proofs.Loads.{cause_of}
use Rattle.doc_stream.proofs.Steps.{stops_more}
use Rattle.doc_stream.proofs.Fills.{moved_both, near_after, near_more, stops_after, takes_after}
use Rattle.doc_stream.proofs.Unasked.{err_other, short_moved}
use Rattle.doc_stream.proofs.reader.Reader.parts.Goals as goal

pub returns-in_err-key-clause-reason : goal.returns-in_err-key-clause-reason
returns-in_err-key-clause-reason g c =
    let p = err_from_is_err_and c.from_residual.result c.from_residual.ensures.1 in
    let asked = asked_of c.args.source.now in
    let file = g.V.View.content c.args.view.now in
    let head = c.args.head.now in
    let all = head.key + head.meta + head.body in
    rw (p.1, p.2) (cause_of g.V.View.tells asked.revision (IsNear asked c.args.self.now head.key) (IsNear asked c.args.self.now all) (Stops asked file c.args.self.now head.key) (Stops asked file c.args.self.now all)
    (g.V.View.faults c.args.view.now) (g.V.View.faults c.args.view.now) (g.V.View.faults c.bytes.new.view) c.in_err-key.field-0.0 (omega arith)
    (λ n near. near_more asked c.args.self.now head.key all n (omega arith) near)
    (λ told n near h. stops_more asked file c.args.self.now head.key all n (omega arith) h)
    c.in_err-key.ensures.reason)

pub returns-in_err-meta-clause-reason : goal.returns-in_err-meta-clause-reason
returns-in_err-meta-clause-reason g c =
    let p = err_from_is_err_and c.from_residual-in_err-meta.result c.from_residual-in_err-meta.ensures.1 in
    let asked = asked_of c.args.source.now in
    let file = g.V.View.content c.args.view.now in
    let head = c.args.head.now in
    let all = head.key + head.meta + head.body in
    let same = c.in_ok-key.ensures.untroubled in
    let key : length c.in_ok-key.key ≡ head.key = c.in_ok-key.ensures.count in
    rw (p.1, p.2) (cause_of g.V.View.tells asked.revision (IsNear asked c.bytes.new.self head.meta) (IsNear asked c.args.self.now all) (Stops asked (g.V.View.content c.bytes.new.view) c.bytes.new.self head.meta) (Stops asked file c.args.self.now all)
    (g.V.View.faults c.args.view.now) (g.V.View.faults c.bytes.new.view) (g.V.View.faults c.bytes-2.new.view) c.in_err-meta.field-0.0 (omega arith)
    (λ n near. near_after asked c.args.self.now c.bytes.new.self head.key head.meta all n c.in_ok-key.ensures.moved (omega arith) near)
    (λ told n near h. stops_after asked file (g.V.View.content c.bytes.new.view) c.args.self.now c.bytes.new.self c.in_ok-key.key head.meta all n (c.in_ok-key.ensures.content told) (c.in_ok-key.ensures.taken told) (omega arith) h)
    c.in_err-meta.ensures.reason)

pub returns-in_err-body-clause-reason : goal.returns-in_err-body-clause-reason
returns-in_err-body-clause-reason g c =
    let p = err_from_is_err_and c.from_residual-in_err-body.result c.from_residual-in_err-body.ensures.1 in
    let asked = asked_of c.args.source.now in
    let file = g.V.View.content c.args.view.now in
    let head = c.args.head.now in
    let all = head.key + head.meta + head.body in
    let same = c.in_ok-key.ensures.untroubled in
    let same_too = c.in_ok-meta.ensures.untroubled in
    let key : length c.in_ok-key.key ≡ head.key = c.in_ok-key.ensures.count in
    let meta : length c.in_ok-meta.meta ≡ head.meta = c.in_ok-meta.ensures.count in
    let both = length-append c.in_ok-key.key c.in_ok-meta.meta in
    rw (p.1, p.2) (cause_of g.V.View.tells asked.revision (IsNear asked c.bytes-2.new.self head.body) (IsNear asked c.args.self.now all) (Stops asked (g.V.View.content c.bytes-2.new.view) c.bytes-2.new.self head.body) (Stops asked file c.args.self.now all)
    (g.V.View.faults c.args.view.now) (g.V.View.faults c.bytes-2.new.view) (g.V.View.faults c.bytes-3.new.view) c.in_err-body.field-0.0 (omega arith)
    (λ n near. near_after asked c.args.self.now c.bytes-2.new.self (head.key + head.meta) head.body all n (moved_both asked c.args.self.now c.bytes.new.self c.bytes-2.new.self head.key head.meta c.in_ok-key.ensures.moved c.in_ok-meta.ensures.moved) (omega arith) near)
    (λ told n near h. stops_after asked file (g.V.View.content c.bytes-2.new.view) c.args.self.now c.bytes-2.new.self (c.in_ok-key.key ++ c.in_ok-meta.meta) head.body all n (c.in_ok-meta.ensures.content told ∙ c.in_ok-key.ensures.content told)
    (takes_after asked file (g.V.View.content c.bytes.new.view) c.args.self.now c.bytes.new.self c.bytes-2.new.self c.in_ok-key.key c.in_ok-meta.meta (c.in_ok-key.ensures.content told) (c.in_ok-key.ensures.taken told) (c.in_ok-meta.ensures.taken told)) (omega arith) h)
    c.in_err-body.ensures.reason)

pub returns-clause-taken : goal.returns-clause-taken
returns-clause-taken g c told =
    let asked = asked_of c.args.source.now in
    let file = g.V.View.content c.args.view.now in
    takes_after asked file (g.V.View.content c.bytes-2.new.view) c.args.self.now c.bytes-2.new.self c.bytes-3.new.self (c.in_ok-key.key ++ c.in_ok-meta.meta) c.in_ok-body.body (c.in_ok-meta.ensures.content told ∙ c.in_ok-key.ensures.content told)
    (takes_after asked file (g.V.View.content c.bytes.new.view) c.args.self.now c.bytes.new.self c.bytes-2.new.self c.in_ok-key.key c.in_ok-meta.meta (c.in_ok-key.ensures.content told) (c.in_ok-key.ensures.taken told) (c.in_ok-meta.ensures.taken told))
    (c.in_ok-body.ensures.taken told)

pub returns-in_err-key-clause-short : goal.returns-in_err-key-clause-short
returns-in_err-key-clause-short g c is =
    let p = err_from_is_err_and c.from_residual.result c.from_residual.ensures.1 in
    let now = c.in_err-key.ensures.short is in
    (now.0, err_other c.in_err-key.field-0.0 Refusal.DiskFault c.from_residual.result (p.1 ∙ ap Err p.2) now.1)

pub returns-in_err-meta-clause-short : goal.returns-in_err-meta-clause-short
returns-in_err-meta-clause-short g c is =
    let p = err_from_is_err_and c.from_residual-in_err-meta.result c.from_residual-in_err-meta.ensures.1 in
    let asked = asked_of c.args.source.now in
    let head = c.args.head.now in
    let now = c.in_err-meta.ensures.short (short_moved asked c.args.self.now c.bytes.new.self head.key head.key c.in_ok-key.ensures.moved is) in
    (now.0 ∙ (c.in_ok-key.ensures.short is).0, err_other c.in_err-meta.field-0.0 Refusal.DiskFault c.from_residual-in_err-meta.result (p.1 ∙ ap Err p.2) now.1)

pub returns-in_err-body-clause-short : goal.returns-in_err-body-clause-short
returns-in_err-body-clause-short g c is =
    let p = err_from_is_err_and c.from_residual-in_err-body.result c.from_residual-in_err-body.ensures.1 in
    let asked = asked_of c.args.source.now in
    let head = c.args.head.now in
    let mid = short_moved asked c.args.self.now c.bytes.new.self head.key head.key c.in_ok-key.ensures.moved is in
    let now = c.in_err-body.ensures.short (short_moved asked c.bytes.new.self c.bytes-2.new.self head.meta head.meta c.in_ok-meta.ensures.moved mid) in
    (now.0 ∙ (c.in_ok-meta.ensures.short mid).0 ∙ (c.in_ok-key.ensures.short is).0, err_other c.in_err-body.field-0.0 Refusal.DiskFault c.from_residual-in_err-body.result (p.1 ∙ ap Err p.2) now.1)

pub returns-clause-short : goal.returns-clause-short
returns-clause-short g c is =
    let asked = asked_of c.args.source.now in
    let head = c.args.head.now in
    let mid = short_moved asked c.args.self.now c.bytes.new.self head.key head.key c.in_ok-key.ensures.moved is in
    let last = short_moved asked c.bytes.new.self c.bytes-2.new.self head.meta head.meta c.in_ok-meta.ensures.moved mid in
    ((c.in_ok-body.ensures.short last).0 ∙ (c.in_ok-meta.ensures.short mid).0 ∙ (c.in_ok-key.ensures.short is).0, λ same. cc)
