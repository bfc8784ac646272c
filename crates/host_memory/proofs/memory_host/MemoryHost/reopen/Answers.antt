use Rattle.std.proofs.Common.{sym, ap, subst}
use Rattle.host_memory.specs.Held.{held}
use Rattle.host_memory.specs.Pending.{FileState, Leaves}
use Rattle.host_memory.proofs.Crashes.{leaves_picked}
use Rattle.host_memory.proofs.memory_host.MemoryHost.reopen.Goals as goal

pub returns-clause-image : goal.returns-clause-image
returns-clause-image c file =
    let before = held c.args.self.state file in
    subst (Leaves file before.blocks before.steps) (sym (ap (λ (f : FileState). f.blocks) (c.crash.ensures.files file))) (leaves_picked file c.args.pick before)
