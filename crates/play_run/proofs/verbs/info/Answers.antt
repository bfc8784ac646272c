use Rattle.std.proofs.Common.{refl, ap, ◌≡◌, IsTrue}
use Rattle.file_parts.specs.Moment.{moment}
use Rattle.forest_model.specs.declared.call.Call.TheVariants as calls
use Rattle.forest_model.specs.declared.call.Reply.TheVariants as replies
use Rattle.forest_model.specs.declared.line.Said.TheVariants as says
use Rattle.forest_model.specs.declared.line.Verb.TheVariants as verbs
use Rattle.play_run.proofs.Answering.{reply_said, reply_refused, all_settled}
use Rattle.play_run.proofs.Sparing.{spares_same}
use Rattle.play_run.proofs.verbs.info.Goals as goal

pub returns-in-Ok-clause-answers : goal.returns-in-Ok-clause-answers
returns-in-Ok-clause-answers g c =
    let before = c.args.file.now.parts in
    let after = c.info.new.self.parts in
    let old = moment before in
    let new = moment after in
    reply_said g.H.Host.tells verbs.Info (calls.Info c.args.at.now) c.args.at.now old new
    refl (λ s f. refl)
    (record { held = c.info.ensures.held; files = ap (λ h. (g.H.Host.disk h).files) c.info.ensures.host; shown = λ _. ap g.H.View.View.content c.info.ensures.view; host = ap g.H.Host.faults c.info.ensures.host })
    (replies.InfoIs c.in-Ok.info) (says.InfoIs c.in-Ok.info) refl refl c.in-Ok.ensures.told

pub returns-in-Err : goal.returns-in-Err
returns-in-Err g c =
    let before = c.args.file.now.parts in
    let after = c.info.new.self.parts in
    let old = moment before in
    let new = moment after in
    let r =
    reply_refused g.H.Host.tells verbs.Info (calls.Info c.args.at.now) c.args.at.now old new
    refl (λ s f. refl)
    (record { held = c.info.ensures.held; files = ap (λ h. (g.H.Host.disk h).files) c.info.ensures.host; shown = λ _. ap g.H.View.View.content c.info.ensures.view; host = ap g.H.Host.faults c.info.ensures.host })
    c.in-Err.why c.refused.result c.refused.ensures.exact c.in-Err.ensures.refused c.requires.somewhere (ap g.H.View.View.faults c.info.ensures.view) in
    record {
      answers = r.answers;
      spelled = r.spelled;
      stop = r.stop;
      line = r.line;
      spares = λ _. spares_same before.revision (g.H.Host.disk before.host) (g.H.Host.disk after.host) (ap (λ h. (g.H.Host.disk h).files) c.info.ensures.host) (ap (λ h. (g.H.Host.disk h).said) c.info.ensures.host);
      settled = all_settled (IsTrue g.H.Host.tells → (g.H.Host.disk after.host).files ≡ (g.H.Host.disk before.host).files) c.refused.result (λ _. ap (λ h. (g.H.Host.disk h).files) c.info.ensures.host);
      untroubled = r.untroubled;
      faults = r.faults;
    }

pub returns-in-Ok-clause-spares : goal.returns-in-Ok-clause-spares
returns-in-Ok-clause-spares g c = λ _.
    spares_same c.args.file.now.parts.revision (g.H.Host.disk c.args.file.now.parts.host) (g.H.Host.disk c.info.new.self.parts.host) (ap (λ h. (g.H.Host.disk h).files) c.info.ensures.host) (ap (λ h. (g.H.Host.disk h).said) c.info.ensures.host)
