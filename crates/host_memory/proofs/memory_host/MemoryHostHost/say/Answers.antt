use Rattle.host_memory.proofs.Told.{says_either}
use Rattle.host_memory.proofs.memory_host.MemoryHostHost.say.Goals as goal

pub returns-clause-told : goal.returns-clause-told
returns-clause-told c told =
    rw c.and-self.ensures (says_either c.args.self.now.state c.say-done.new.self c.args.self.now.past.items c.args.bytes.now c.say-done.ensures.files c.say-done.result c.outcome.result c.outcome.ensures.same c.say-done.ensures.said c.say-done.ensures.err)
