use Rattle.host_memory.proofs.Told.{stays, removes_either, removes_not}
use Rattle.host_memory.proofs.memory_host.MemoryHostHost.remove.Goals as goal

pub returns-then-admit_quietly-clause-told : goal.returns-then-admit_quietly-clause-told
returns-then-admit_quietly-clause-told c told = rw c.and-self.ensures (removes_either c.args.self.now.state c.remove.new.self c.args.self.now.past.items c.args.file c.remove.result c.remove.ensures.removed c.remove.ensures.absent)

pub returns-else-admit_quietly-clause-told : goal.returns-else-admit_quietly-clause-told
returns-else-admit_quietly-clause-told c told = let state = c.args.self.now.state in removes_not state state c.args.self.now.past.items c.args.file (stays state)
