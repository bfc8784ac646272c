use Rattle.std.proofs.lemmas.Result.{err_from_is_err_and}
use Rattle.std.proofs.Common.{[]}
use Rattle.std.specs.Prelude.{unwrap_or}
use Rattle.host_memory.proofs.Told.{stays, adopts_not, adopts_either}
use Rattle.host_memory.proofs.memory_host.MemoryHostHost.adopt.Goals as goal

pub returns-in_err-admit-clause-told : goal.returns-in_err-admit-clause-told
returns-in_err-admit-clause-told c told = let state = c.args.self.now.state in
    let failed = err_from_is_err_and c.from_residual.result c.from_residual.ensures.1 in
    rw (failed.1, failed.2) (adopts_not state state c.args.self.now.past.items c.args.settled.file (unwrap_or c.args.settled.blocks []) (stays state))

pub returns-clause-told : goal.returns-clause-told
returns-clause-told c told =
    rw c.and-self.ensures (adopts_either c.args.self.now.state c.take_place-done.new.state c.args.self.now.past.items c.args.settled.file (unwrap_or c.args.settled.blocks []) c.take_place-done.result c.outcome.result c.outcome.ensures.same c.take_place-done.ensures.ok c.take_place-done.ensures.err)
