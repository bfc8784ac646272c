use Rattle.std.proofs.Common.{refl}
use Rattle.plain_session.proofs.Turns.{by_copier}
use Rattle.plain_session.proofs.session.PlainSession.tell_by_copier.Goals as goal

pub returns : goal.returns
returns c w verb here =
    by_copier c.args.self.now c.args.self.now.oracle c.args.lane c.index_mut.result.now _ c.copy-place.new.copier _ w verb c.requires.lane here c.index_mut.ensures.value
    c.args.count c.copy-place.result.0 c.copy-place.result.1 refl refl (c.copy-place.ensures w (record { lane = c.args.lane; verb = verb }) here.state here.copier)
