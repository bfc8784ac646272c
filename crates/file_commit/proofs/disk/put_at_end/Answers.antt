use Rattle.file_commit.proofs.Fronts.{any_appended, any_put}
use Rattle.file_commit.proofs.Leaving.{left_appended, left_put}
use Rattle.file_commit.proofs.disk.put_at_end.Goals as goal

pub returns-in_err-append-clause-begun : goal.returns-in_err-append-clause-begun
returns-in_err-append-clause-begun g c told =
    left_appended c.args.file c.args.blocks.now (g.H.Host.disk c.args.host.now) (g.H.Host.disk c.append.new.self) (g.met.H.Host.lawful told c.args.host.now) c.append.ensures.clock
    c.append.result (c.append.ensures.told told)

pub returns-clause-begun : goal.returns-clause-begun
returns-clause-begun g c told =
    left_put c.args.file c.args.blocks.now (g.H.Host.disk c.args.host.now) (g.H.Host.disk c.append.new.self) (g.H.Host.disk c.sync.new.self) c.append.result c.sync.result
    (g.met.H.Host.lawful told c.args.host.now) (c.append.ensures.told told) c.append.ensures.clock (c.sync.ensures.told told) c.sync.ensures.clock

pub returns-in_err-append-clause-crash : goal.returns-in_err-append-clause-crash
returns-in_err-append-clause-crash g c = λ told. any_appended _ _ _ _ _ (c.append.ensures.told told)

pub returns-clause-crash : goal.returns-clause-crash
returns-clause-crash g c = λ told. any_put _ _ _ _ _ _ _ c.append.ensures.clock (c.append.ensures.told told) (c.sync.ensures.told told)
