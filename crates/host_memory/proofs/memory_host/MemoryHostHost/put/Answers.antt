use Rattle.std.proofs.lemmas.Result.{err_from_is_err_and}
use Rattle.host_memory.proofs.Told.{stays, puts_not, puts_either}
use Rattle.host_memory.proofs.memory_host.MemoryHostHost.put.Goals as goal

pub returns-in_err-admit-clause-told : goal.returns-in_err-admit-clause-told
returns-in_err-admit-clause-told c told = let state = c.args.self.now.state in
    let failed = err_from_is_err_and c.from_residual.result c.from_residual.ensures.1 in
    rw (failed.1, failed.2) (puts_not state state c.args.self.now.past.items c.args.slot c.args.block.now (stays state))

pub returns-clause-told : goal.returns-clause-told
returns-clause-told c told =
    rw c.and-self.ensures (puts_either c.args.self.now.state c.put-done.new.self c.args.self.now.past.items c.args.slot c.args.block.now c.put-done.result c.outcome.result c.requires c.outcome.ensures.same c.put-done.ensures.ok c.put-done.ensures.err)
