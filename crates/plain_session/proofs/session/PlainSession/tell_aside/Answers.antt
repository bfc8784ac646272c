use Rattle.std.proofs.Common.{ap}
use Rattle.forest_model.specs.Session.{turn_aside, turn_by_copier, turn_by_snapshot}
use Rattle.forest_model.specs.declared.line.Line.{Line}
use Rattle.forest_model.specs.declared.line.Verb.{Verb}
use Rattle.plain_session.proofs.Turns.{line_of_turn, on_snapshot}
use Rattle.plain_session.proofs.session.PlainSession.tell_aside.Goals as goal

pub returns-in-CompactCopy-clause-tells : goal.returns-in-CompactCopy-clause-tells
returns-in-CompactCopy-clause-tells c w here =
    let line : Line = record { lane = c.args.lane; verb = c.args.verb } in
    line_of_turn c.tell_by_copier.new.self w (turn_by_copier w line c.in-CompactCopy.count w.copier) (turn_aside w line c.args.verb) c.tell_by_copier.result
    (ap (λ (verb : Verb). turn_aside w line verb) c.in-CompactCopy.is) (c.tell_by_copier.ensures w c.args.verb here)

pub returns-in_ok-tell_by_snapshot-in_default : goal.returns-in_ok-tell_by_snapshot-in_default
returns-in_ok-tell_by_snapshot-in_default c = record {
  tells = λ w here.
      let line : Line = record { lane = c.args.lane; verb = c.args.verb } in
      line_of_turn c.tell_by_snapshot.new.self w (turn_by_snapshot w line (w.lanes c.args.lane).snapshot) (turn_aside w line c.args.verb) c.in_ok-tell_by_snapshot-in_default.field-0
      (on_snapshot w line c.args.verb c.in_default.not-Compact c.in_default.not-CompactCopy) (c.in_ok-tell_by_snapshot-in_default.ensures.tells w here);
  kept = tt;
  memory = tt;
  copies = λ w here. tt;
}
