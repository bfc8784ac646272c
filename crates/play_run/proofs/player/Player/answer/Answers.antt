use Rattle.std.proofs.Common.{subst, ap, ◌∙◌, inr, Err, refl}
use Rattle.play_run.specs.Script.{IsBad}
use Rattle.play_run.specs.Seen.{seen}
use Rattle.play_run.specs.Playing.{disk_of, position, seen_of}
use Rattle.play_run.proofs.Runs.{run_more, run_part, run_unsaid, runs_as, somewhere_more}
use Rattle.play_run.proofs.Sparing.{spares_front}
use Rattle.play_run.proofs.Stopping.{stops_told}
use Rattle.play_run.proofs.player.Player.answer.Goals as goal

pub returns-in-Err-clause-stops : goal.returns-in-Err-clause-stops
returns-in-Err-clause-stops g c =
    stops_told c.in-Err.why _ c.args.self.now.open_line.items (position c.args.self.now.session.file.parts c.args.self.now.session.lanes) c.args.self.now.count _ _ c.in-Err.ensures.stop
    (λ bad. subst IsBad c.as_slice.ensures.value (c.in-Err.ensures.bad (ap Err bad)).0) c.in-Err.ensures.settled c.in-Err.ensures.silent
    (λ tells. spares_front (disk_of c.args.self.now.session.file.parts) (disk_of c.told_for.new.session.file.parts) (c.in-Err.ensures.spares tells))

-- there is no memory for the reply, which isn't said
pub returns-in-Err-spelled-clause-stops : goal.returns-in-Err-spelled-clause-stops
returns-in-Err-spelled-clause-stops g c = λ base texts plain has.
    inr (run_unsaid _ base _ (seen_of c.told_for.new.session.file.parts) texts _ (position c.told_for.new.session.file.parts c.told_for.new.session.lanes)
    (disk_of c.told_for.new.session.file.parts) c.args.self.now.count c.args.self.now.open_line.items _ c.in-Ok.told
    has (runs_as _ _ _ _ _ _ _ _ c.in-Ok.ensures.runs c.as_slice.ensures.value) plain refl (λ _. refl) (λ _. refl))

-- the reply was said behind what was heard, and the file is that after the line
pub returns-in-Ok-say-clause-run : goal.returns-in-Ok-say-clause-run
returns-in-Ok-say-clause-run g c = λ base texts plain has.
    run_more _ base _ (seen (g.H.Host.disk c.told_for.new.session.file.parts.host)) texts _
    (position c.told_for.new.session.file.parts c.told_for.new.session.lanes)
    (g.H.Host.disk c.say.new.self) c.args.self.now.count c.args.self.now.open_line.items c.as_slice-2.result.now c.in-Ok.told
    has (runs_as _ _ _ _ _ _ _ _ c.in-Ok.ensures.runs c.as_slice.ensures.value)
    plain (c.as_slice-2.ensures.value ∙ c.in-Ok-spelled.ensures.spelled) (λ tells. (c.in-Ok-say.ensures.told tells).done) (λ tells. (c.in-Ok-say.ensures.told tells).files)

pub returns-in-Ok-say-clause-somewhere : goal.returns-in-Ok-say-clause-somewhere
returns-in-Ok-say-clause-somewhere g c =
    somewhere_more _ c.as_slice.result.now _
    (position c.told_for.new.session.file.parts c.told_for.new.session.lanes)
    _ (seen (g.H.Host.disk c.told_for.new.session.file.parts.host)) (g.H.Host.disk c.say.new.self) c.in-Ok.told c.in-Ok.ensures.runs c.requires.somewhere (λ tells. (c.in-Ok-say.ensures.told tells).files)

-- the first bytes of the reply were said
pub returns-clause-stops : goal.returns-clause-stops
returns-clause-stops g c = λ base texts plain has.
    inr (run_part _ base _ (seen_of c.told_for.new.session.file.parts) texts _ (position c.told_for.new.session.file.parts c.told_for.new.session.lanes)
    (g.H.Host.disk c.say.new.self) c.args.self.now.count c.args.self.now.open_line.items c.as_slice-2.result.now c.in-Ok.told
    has (runs_as _ _ _ _ _ _ _ _ c.in-Ok.ensures.runs c.as_slice.ensures.value) plain
    (c.as_slice-2.ensures.value ∙ c.in-Ok-spelled.ensures.spelled) (λ tells. (c.in-Err-say.ensures.told tells).files) (λ tells. (c.in-Err-say.ensures.told tells).part))
