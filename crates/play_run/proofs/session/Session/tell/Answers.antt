use Rattle.std.proofs.Common.{sym, false}
use Rattle.play_run.specs.Playing.{opened, position}
use Rattle.play_run.proofs.Sparing.{spares_first}
use Rattle.play_run.proofs.Turns.{leads}
use Rattle.play_run.proofs.session.Session.tell.Goals as goal

pub returns-clause-goes : goal.returns-clause-goes
returns-clause-goes g c = λ w f here.
    let old = c.args.self.now.file.parts in
    let new = c.run.new.file.parts in
    leads g.H.Host.tells (position old c.args.self.now.lanes) (opened new) w f c.args.line.now
    c.run.new.at (record { store = 0; read_only = false }) c.in_ok-said.said c.updates.result c.updates.ensures (sym c.if-not-is_built.ensures) c.requires.right.0 here c.in_ok-said.ensures.answers

pub returns-clause-spares : goal.returns-clause-spares
returns-clause-spares g c = λ tells. spares_first _ _ _ c.requires.somewhere.2.first_file (c.run.ensures.spares tells)

pub returns-in_err-said-clause-spares : goal.returns-in_err-said-clause-spares
returns-in_err-said-clause-spares g c = λ tells. spares_first _ _ _ c.requires.somewhere.2.first_file (c.run.ensures.spares tells)
