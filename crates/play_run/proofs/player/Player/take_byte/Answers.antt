use Rattle.play_run.specs.Playing.{position}
use Rattle.std.proofs.Common.{[], ◌∷◌}
use Rattle.play_run.proofs.Taking.{ends_line_by, stops_line_by, among}
use Rattle.play_run.proofs.player.Player.take_byte.Goals as goal

pub returns-in-Ok-clause-taken : goal.returns-in-Ok-clause-taken
returns-in-Ok-clause-taken g c = λ base taken has.
    ends_line_by _ base _ _ taken c.args.self.now.open_line.items _ _ _ c.args.self.now.count _ c.args.byte has
    (c.in-Ok.ensures.run base) c.if-byte-eq10.true c.in-Ok.ensures.open_line

pub returns-in-Err-clause-stops : goal.returns-in-Err-clause-stops
returns-in-Err-clause-stops g c = λ base taken has.
    stops_line_by _ _ base _ _ taken c.args.self.now.open_line.items (position c.args.self.now.session.file.parts c.args.self.now.session.lanes) c.args.self.now.count _ c.args.byte has
    c.in-Err.ensures.stops c.in-Err.ensures.same_count c.if-byte-eq10.true

pub returns-then-is_err-clause-stops : goal.returns-then-is_err-clause-stops
returns-then-is_err-clause-stops g c = λ base taken has.
    among _ base _ taken c.args.self.now.open_line.items (position c.args.self.now.session.file.parts c.args.self.now.session.lanes) c.args.self.now.count has (c.args.byte ∷ [])
