use Rattle.std.proofs.Common.{refl}
use Rattle.plain_session.proofs.Turns.{by_file}
use Rattle.plain_session.proofs.session.PlainSession.tell_by_file.Goals as goal

pub returns-clause-tells : goal.returns-clause-tells
returns-clause-tells c w verb here =
    by_file c.args.self.now c.step.new.self c.args.lane c.index_mut.result.now c.note.new.self c.copier_after-self.result _ w verb c.requires.lane here c.index_mut.ensures.value
    c.args.call.now c.in_ok-reply.reply c.in_ok-opened.opened c.said_of.result c.in_ok-reply.ensures.step c.in_ok-opened.ensures.ok
    (c.note.ensures c.args.call.now c.step.new.self.state refl) c.copier_after-self.ensures c.said_of.ensures
