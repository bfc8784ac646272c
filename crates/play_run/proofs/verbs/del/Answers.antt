use Rattle.std.proofs.Common.{refl, sym, Some}
use Rattle.file_parts.specs.Moment.{moment}
use Rattle.forest_model.specs.declared.call.Call.TheVariants as calls
use Rattle.forest_model.specs.declared.call.Reply.TheVariants as replies
use Rattle.forest_model.specs.declared.line.Said.TheVariants as says
use Rattle.forest_model.specs.declared.line.Verb.TheVariants as verbs
use Rattle.play_run.proofs.Answering.{update_done, update_refused, update_settled}
use Rattle.play_run.proofs.verbs.del.Goals as goal

pub returns-in-Ok-clause-answers : goal.returns-in-Ok-clause-answers
returns-in-Ok-clause-answers g c =
    let before = c.args.file.now.parts in
    let after = c.delete.new.self.parts in
    let old = moment before in
    let new = moment after in
    update_done g.H.Host.tells replies.Seq (verbs.Del c.args.key.now) (calls.Delete c.args.at.now c.as_slice.result.now) c.args.at.now old new c.args.at.now c.in-Ok.seq (says.Gone c.in-Ok.seq)
    (λ i. Some (calls.Delete c.args.at.now (sym c.as_slice.ensures i))) refl refl c.in-Ok.ensures.updates

pub returns-in-Err : goal.returns-in-Err
returns-in-Err g c =
    let before = c.args.file.now.parts in
    let after = c.delete.new.self.parts in
    let old = moment before in
    let new = moment after in
    let r =
    update_refused g.H.Host.tells replies.Seq (verbs.Del c.args.key.now) _ c.args.at.now old new c.in-Err.why c.refused.result c.refused.ensures.exact
    (λ i. Some (calls.Delete c.args.at.now (sym c.as_slice.ensures i)))
    c.in-Err.ensures.updates c.requires.somewhere c.in-Err.ensures.keeps.untroubled c.in-Err.ensures.keeps.view_count c.in-Err.ensures.keeps.counts in
    record {
      answers = r.answers;
      spelled = r.spelled;
      stop = r.stop;
      line = r.line;
      spares = λ told. record { aside = c.in-Err.ensures.keeps.aside told; front = c.in-Err.ensures.keeps.front told };
      settled = update_settled g.H.Host.tells old new c.in-Err.why c.refused.result c.refused.ensures.exact c.in-Err.ensures.keeps.refused;
      untroubled = r.untroubled;
      faults = r.faults;
    }
