use Rattle.host_memory.proofs.Told.{syncs}
use Rattle.host_memory.proofs.memory_host.MemoryHostHost.sync.Goals as goal

pub returns-clause-told : goal.returns-clause-told
returns-clause-told c told = rw c.and-self.ensures (syncs c.args.self.now.state c.sync.new.self c.args.self.now.past.items c.args.file c.sync.ensures)
