use Rattle.std.proofs.Common.{ap, sym, subst, ◌∙◌}
use Rattle.std.specs.Prelude.{Option, IfOk}
use Rattle.std.specs.Option.{option_map}
use Rattle.forest_model.specs.Session.{Turn, turn_aside}
use Rattle.forest_model.specs.declared.line.Verb.{Verb}
use Rattle.plain_session.specs.Plain.{ShowsTurnIfAny, snapshot_shown}
use Rattle.plain_session.specs.declared.asked.Asked.TheVariants.{OfFile, Aside}
use Rattle.plain_session.proofs.Lanes.{asked_shown}
use Rattle.plain_session.proofs.Turns.{line_of_call, turn_with}
use Rattle.plain_session.proofs.session.PlainSession.tell.Goals as goal

pub returns-in_ok-tell_by_file-in-OfFile-clause-tells :
    goal.returns-in_ok-tell_by_file-in-OfFile-clause-tells
returns-in_ok-tell_by_file-in-OfFile-clause-tells c w file here room =
    let lane = c.index.result.now in
    let is_call =
    asked_shown c.args.self.now w c.args.line.lane lane c.args.line.verb (OfFile c.in-OfFile.call) c.requires.lane here c.index.ensures
    (c.in-OfFile.ensures lane.printed (option_map snapshot_shown lane.snapshot)) in
    line_of_call c.args.self.now c.tell_by_file.new.self w file c.args.line c.in-OfFile.call c.in_ok-tell_by_file-in-OfFile.field-0 here room is_call
    (c.in_ok-tell_by_file-in-OfFile.ensures.tells w c.args.line.verb here)

pub returns-in-Aside-clause-tells : goal.returns-in-Aside-clause-tells
returns-in-Aside-clause-tells c w file here room =
    let lane = c.index.result.now in
    let asks =
    asked_shown c.args.self.now w c.args.line.lane lane c.args.line.verb (Aside c.in-Aside.verb) c.requires.lane here c.index.ensures
    (c.in-Aside.ensures lane.printed (option_map snapshot_shown lane.snapshot)) in
    subst (λ (o : Option Turn). IfOk c.tell_aside.result (ShowsTurnIfAny c.tell_aside.new.self w o))
    (ap (λ (verb : Verb). turn_aside w (record { lane = c.args.line.lane; verb = verb }) verb) asks.1 ∙ sym (ap (turn_with w file c.args.line) asks.0))
    (c.tell_aside.ensures.tells w here)
