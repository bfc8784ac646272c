use Rattle.std.proofs.Common.{refl}
use Rattle.play_run.proofs.Runs.{before_first}
use Rattle.play_run.proofs.player.Player.new.Goals as goal

pub returns-clause-taken : goal.returns-clause-taken
returns-clause-taken g c = λ base f stands same. before_first _ base _ f _ _ (c.new.ensures.start f stands) same c.new-2.ensures.items refl

pub returns-clause-somewhere : goal.returns-clause-somewhere
returns-clause-somewhere g c = λ f stands. (_, f, c.new.ensures.start f stands)
