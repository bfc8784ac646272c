use Rattle.std.proofs.Common.{◌≡◌, ◌≤◌, ◌-◌, ℕ, List, length, take, drop, Err, refl, ◌∙◌, ap, arith, subst}
use Rattle.std.proofs.lemmas.Result.{err_from_is_err_and}
use Rattle.std.proofs.lemmas.List.{length-take-le, length-drop}
use borrow.Rule.Slice.PartMut.{mid_of, post_of, put_mid, same_len_mid}
use Rattle.block_host.specs.declared.block.Block.{Block}
use Rattle.forest_model.specs.declared.refusal.Refusal.TheVariants as Refusal
use Rattle.doc_stream.specs.Sources.{asked_of}
use Rattle.doc_stream.specs.Steps.{IsNear, Turns, Stops}
use Rattle.doc_stream.proofs.Loads.{cause_of}
use Rattle.doc_stream.proofs.Fills.{fill_more, moved_more, near_after, stops_filling}
use Rattle.doc_stream.proofs.Unasked.{err_other, short_moved}
use Rattle.doc_stream.proofs.reader.Reader.fill.Goals as goal

pub returns-in_err-turn-clause-reason : goal.returns-in_err-turn-clause-reason
returns-in_err-turn-clause-reason g c =
    let p = err_from_is_err_and c.from_residual.result c.from_residual.ensures.1 in
    let asked = asked_of c.args.source.now in
    let file = g.V.View.content c.args.view.now in
    let place = c.args.self.now in
    let same_faults = c.loop-filled.invariant.untroubled in
    let long : length c.loop-filled.out ≡ length c.args.out.now = c.loop-filled.auto.out in
    let test = c.loop-filled-test.true in
    rw (p.1, p.2) (cause_of g.V.View.tells asked.revision (IsNear asked c.loop-filled.self 1) (IsNear asked place (length c.args.out.now)) (Stops asked (g.V.View.content c.loop-filled.view) c.loop-filled.self 1) (Stops asked file place (length c.args.out.now))
    (g.V.View.faults c.args.view.now) (g.V.View.faults c.loop-filled.view) (g.V.View.faults c.turn.new.view) c.in_err-turn.field-0.0 (omega arith)
    (λ n near. near_after asked place c.loop-filled.self c.loop-filled.filled 1 (length c.args.out.now) n c.loop-filled.invariant.moved (omega arith) near)
    (λ told n near h. subst (λ (k : ℕ). Stops asked file place k n) long
    (stops_filling asked file place c.loop-filled.self c.loop-filled.out c.loop-filled.filled n c.loop-filled-test.true (c.loop-filled.invariant.taken told)
    (subst (λ (f : List Block). Stops asked f c.loop-filled.self 1 n) (c.loop-filled.invariant.content told) h)))
    c.in_err-turn.ensures.reason)

pub loop-filled-preserved : goal.loop-filled-preserved
loop-filled-preserved g c =
    let asked = asked_of c.args.source.now in
    let file = g.V.View.content c.args.view.now in
    let place = c.args.self.now in
    let inv = c.loop-filled.invariant in
    let out = c.loop-filled.out in
    let filled = c.loop-filled.filled in
    let n = c.copy-filled.result in
    let part = c.copy-filled.new.out in
    let left = length out - filled in
    let old = c.loop-filled.self in
    let mid = c.turn.new.self in
    let new = c.copy-filled.new.self in
    let long : length part ≡ length (mid_of filled left out) = c.copy-filled.auto.out in
    let room : length (mid_of filled left out) ≡ left = length-take-le left (drop filled out) (omega (arith, length-drop {A = ℕ})) in
    let all_long = same_len_mid filled left out part long in
    let count : n ≤ length (mid_of filled left out) = c.copy-filled.ensures.count in
    let within : filled ≤ length out = inv.count in
    let fits : n ≤ length part = omega arith in
    record {
      count = omega arith;
      moved = moved_more asked place old mid new (take n part) filled n c.copy-filled.ensures.least inv.moved c.in_ok-turn.ensures.moved c.copy-filled.ensures.next c.copy-filled.ensures.offset c.copy-filled.ensures.taken (length-take-le n part fits);
      taken = λ told. fill_more asked file place old mid new out part (post_of filled left out) (put_mid filled left out part) filled n within c.copy-filled.ensures.least fits refl
          (inv.taken told) (subst (λ (f : List Block). Turns asked f old mid) (inv.content told) (c.in_ok-turn.ensures.turned told)) c.copy-filled.ensures.next c.copy-filled.ensures.offset c.copy-filled.ensures.taken;
      content = λ told. c.in_ok-turn.ensures.content told ∙ inv.content told;
      untroubled = c.in_ok-turn.ensures.untroubled (λ is. cc) ∙ inv.untroubled;
      short = λ is. (c.in_ok-turn.ensures.short (short_moved asked place old filled filled inv.moved is)).0 ∙ inv.short is;
    }

pub returns-in_err-turn-clause-short : goal.returns-in_err-turn-clause-short
returns-in_err-turn-clause-short g c is =
    let p = err_from_is_err_and c.from_residual.result c.from_residual.ensures.1 in
    let inv = c.loop-filled.invariant in
    let now = c.in_err-turn.ensures.short (short_moved (asked_of c.args.source.now) c.args.self.now c.loop-filled.self c.loop-filled.filled c.loop-filled.filled inv.moved is) in
    (now.0 ∙ inv.short is, err_other c.in_err-turn.field-0.0 Refusal.DiskFault c.from_residual.result (p.1 ∙ ap Err p.2) now.1)

pub returns-in_err-turn-clause-memory : goal.returns-in_err-turn-clause-memory
returns-in_err-turn-clause-memory g c =
    let p = err_from_is_err_and c.from_residual.result c.from_residual.ensures.1 in
    err_other c.in_err-turn.field-0.0 Refusal.NoMemory c.from_residual.result (p.1 ∙ ap Err p.2) c.in_err-turn.ensures.memory
