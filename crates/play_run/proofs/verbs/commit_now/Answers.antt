use Rattle.std.proofs.Common.{refl}
use Rattle.file_parts.specs.Moment.{moment}
use Rattle.forest_model.specs.declared.call.Call.TheVariants as calls
use Rattle.forest_model.specs.declared.call.Reply.TheVariants as replies
use Rattle.forest_model.specs.declared.line.Said.TheVariants as says
use Rattle.forest_model.specs.declared.line.Verb.TheVariants as verbs
use Rattle.play_run.proofs.Answering.{committed_update, update_done, update_refused, update_settled}
use Rattle.play_run.proofs.verbs.commit_now.Goals as goal

pub returns-in-Ok-clause-answers : goal.returns-in-Ok-clause-answers
returns-in-Ok-clause-answers g c =
    let before = c.args.file.now.parts in
    let after = c.commit.new.file.parts in
    let old = moment before in
    let new = moment after in
    update_done g.H.Host.tells replies.Committed verbs.Commit (calls.Commit c.args.at.now) c.args.at.now old new c.args.at.now c.in-Ok.number (says.Committed c.in-Ok.number)
    refl refl refl (λ s f st is. committed_update g.H.Host.tells s f c.args.at.now old new _ (c.in-Ok.ensures.commits s f st is))

pub returns-in-Err : goal.returns-in-Err
returns-in-Err g c =
    let before = c.args.file.now.parts in
    let after = c.commit.new.file.parts in
    let old = moment before in
    let new = moment after in
    let r =
    update_refused g.H.Host.tells replies.Committed verbs.Commit (calls.Commit c.args.at.now) c.args.at.now old new c.in-Err.why c.refused.result c.refused.ensures.exact
    refl
    (λ s f st is. committed_update g.H.Host.tells s f c.args.at.now old new _ (c.in-Err.ensures.commits s f st is)) c.requires.somewhere c.in-Err.ensures.keeps.untroubled c.in-Err.ensures.keeps.view_count c.in-Err.ensures.keeps.counts in
    record {
      answers = r.answers;
      spelled = r.spelled;
      stop = r.stop;
      line = r.line;
      spares = λ told. record { aside = c.in-Err.ensures.keeps.aside told; front = c.in-Err.ensures.keeps.front told };
      settled = update_settled g.H.Host.tells old new c.in-Err.why c.refused.result c.refused.ensures.exact c.in-Err.ensures.keeps.refused;
      untroubled = r.untroubled;
      faults = r.faults;
    }
