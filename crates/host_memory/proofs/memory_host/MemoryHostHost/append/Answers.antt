use Rattle.std.proofs.lemmas.Result.{err_from_is_err_and}
use Rattle.host_memory.proofs.Told.{stays, appends_not, appends_either}
use Rattle.host_memory.proofs.memory_host.MemoryHostHost.append.Goals as goal

pub returns-in_err-admit-clause-told : goal.returns-in_err-admit-clause-told
returns-in_err-admit-clause-told c told = let state = c.args.self.now.state in
    let failed = err_from_is_err_and c.from_residual.result c.from_residual.ensures.1 in
    rw (failed.1, failed.2) (appends_not state state c.args.self.now.past.items c.args.file c.args.blocks.now (stays state))

pub returns-clause-told : goal.returns-clause-told
returns-clause-told c told =
    rw c.and-self.ensures (appends_either c.args.self.now.state c.append-done.new.self c.args.self.now.past.items c.args.file c.args.blocks.now c.append-done.result c.outcome.result c.outcome.ensures.same c.append-done.ensures.ok c.append-done.ensures.err)
