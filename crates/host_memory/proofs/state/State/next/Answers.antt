use Rattle.std.proofs.Common.{sym, subst}
use Rattle.block_host.specs.Calls.{NextFile}
use Rattle.host_memory.proofs.Least.{files_of, first_least}
use Rattle.host_memory.proofs.state.State.next.Goals as goal

pub returns : goal.returns
returns c =
    let entries = c.args.self.now.files.entries in
    subst (NextFile c.args.after (files_of entries)) (sym c.first_above.ensures.first) (first_least c.args.after entries c.first_above.ensures.ordered)
