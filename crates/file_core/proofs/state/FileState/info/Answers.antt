use Rattle.std.proofs.Common.{sym, subst}
use Rattle.forest_model.specs.Step.{step_with_room}
use Rattle.forest_model.specs.declared.call.Call.TheVariants as Call
use Rattle.file_parts.specs.Held.{held}
use Rattle.file_core.proofs.Standing.{InfoAnswers, info_answers, answered_ok, answered_err}
use Rattle.file_core.proofs.state.FileState.info.Goals as goal

pub returns-clause-told : goal.returns-clause-told
returns-clause-told g c = λ s stands.
    let old = c.args.self.now.parts in
    answered_ok s (step_with_room s (Call.Info c.args.at.now)) c.info_of.result
    (subst (InfoAnswers s (step_with_room s (Call.Info c.args.at.now))) (sym c.info_of.ensures) (info_answers g.H.Host.tells (held old) (g.H.Host.disk old.host) (g.H.View.View.content old.view) s c.args.at.now stands))

pub returns-clause-refused : goal.returns-clause-refused
returns-clause-refused g c = λ s stands.
    let old = c.args.self.now.parts in
    answered_err s (step_with_room s (Call.Info c.args.at.now)) c.info_of.result
    (subst (InfoAnswers s (step_with_room s (Call.Info c.args.at.now))) (sym c.info_of.ensures) (info_answers g.H.Host.tells (held old) (g.H.Host.disk old.host) (g.H.View.View.content old.view) s c.args.at.now stands))
