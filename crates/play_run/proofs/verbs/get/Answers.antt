use Rattle.std.proofs.Common.{refl, sym, ap, ◌∙◌, Some, ◌≡◌, IsTrue}
use Rattle.file_parts.specs.Held.{held}
use Rattle.file_parts.specs.Moment.{moment}
use Rattle.forest_model.specs.declared.call.Call.TheVariants as calls
use Rattle.forest_model.specs.declared.line.Said.TheVariants as says
use Rattle.forest_model.specs.declared.line.Verb.TheVariants as verbs
use Rattle.play_run.proofs.Answering.{read_found, read_refused, text_leaves, all_settled}
use Rattle.play_run.proofs.Sparing.{spares_same}
use Rattle.play_run.proofs.verbs.get.Goals as goal

pub returns-in-Ok-clause-answers : goal.returns-in-Ok-clause-answers
returns-in-Ok-clause-answers g c =
    let before = c.args.file.now.parts in
    let after = c.get.new.self.parts in
    let old = moment before in
    let new = moment after in
    read_found g.H.Host.tells (verbs.Get c.args.key.now) (calls.Get c.args.at.now c.as_slice.result.now) c.args.at.now old new
    (λ i. Some (calls.Get c.args.at.now (sym c.as_slice.ensures i))) (λ s f. refl)
    (record { held = c.in-Ok.ensures.left; files = ap (λ h. (g.H.Host.disk h).files) c.get.ensures.host; shown = c.get.ensures.content; host = ap g.H.Host.faults c.get.ensures.host })
    c.in-Ok.found says.Got (λ found. refl) c.in-Ok.ensures.reads

pub returns-in-Err : goal.returns-in-Err
returns-in-Err g c =
    let before = c.args.file.now.parts in
    let after = c.get.new.self.parts in
    let old = moment before in
    let new = moment after in
    let r =
    read_refused g.H.Host.tells (verbs.Get c.args.key.now) (calls.Get c.args.at.now c.as_slice.result.now) c.args.at.now old new
    (λ i. Some (calls.Get c.args.at.now (sym c.as_slice.ensures i))) (λ s f. refl)
    c.in-Err.why c.refused.result c.refused.ensures.exact
    (λ text. record { held = c.in-Err.ensures.left ∙ text_leaves (g.H.Host.faults before.host) (held before) c.in-Err.why text; files = ap (λ h. (g.H.Host.disk h).files) c.get.ensures.host; shown = c.get.ensures.content; host = ap g.H.Host.faults c.get.ensures.host }) (ap g.H.Host.faults c.get.ensures.host)
    c.in-Err.ensures.reads c.requires.somewhere c.in-Err.ensures.untroubled in
    record {
      answers = r.answers;
      spelled = r.spelled;
      stop = r.stop;
      line = r.line;
      spares = λ _. spares_same before.revision (g.H.Host.disk before.host) (g.H.Host.disk after.host) (ap (λ h. (g.H.Host.disk h).files) c.get.ensures.host) (ap (λ h. (g.H.Host.disk h).said) c.get.ensures.host);
      settled = all_settled (IsTrue g.H.Host.tells → (g.H.Host.disk after.host).files ≡ (g.H.Host.disk before.host).files) c.refused.result (λ _. ap (λ h. (g.H.Host.disk h).files) c.get.ensures.host);
      untroubled = r.untroubled;
      faults = r.faults;
    }

pub returns-in-Ok-clause-spares : goal.returns-in-Ok-clause-spares
returns-in-Ok-clause-spares g c = λ _.
    spares_same c.args.file.now.parts.revision (g.H.Host.disk c.args.file.now.parts.host) (g.H.Host.disk c.get.new.self.parts.host) (ap (λ h. (g.H.Host.disk h).files) c.get.ensures.host) (ap (λ h. (g.H.Host.disk h).said) c.get.ensures.host)
