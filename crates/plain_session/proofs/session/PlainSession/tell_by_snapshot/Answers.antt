use Rattle.std.proofs.Common.{refl}
use Rattle.plain_session.proofs.Turns.{by_snapshot}
use Rattle.plain_session.proofs.session.PlainSession.tell_by_snapshot.Goals as goal

pub returns-clause-tells : goal.returns-clause-tells
returns-clause-tells c w here =
    by_snapshot c.args.self.now c.args.self.now.oracle c.args.lane c.index_mut.result.now c.tell.new.self c.args.self.now.copier _ w c.args.verb.now c.requires.lane here c.index_mut.ensures.value
    c.in_ok-place.place c.in_ok-place.said refl refl c.in_ok-place.ensures.said c.in_ok-place.ensures.after
