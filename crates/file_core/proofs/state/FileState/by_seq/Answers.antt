use Rattle.std.proofs.Common.{◌≡◌, Err, rules}
use Rattle.file_parts.specs.Held.{held}
use Rattle.file_core.proofs.Answering.{number_refused_as, number_found_as}
use Rattle.file_core.proofs.state.FileState.by_seq.Goals as goal

pub returns-in_err-entry-clause-reads : goal.returns-in_err-entry-clause-reads
returns-in_err-entry-clause-reads g c =
    let old = c.args.self.now.parts in
    let faults = g.H.View.View.faults old.view in
    let is : c.from_residual.result ≡ Err c.in_err-entry.field-0.0 = search rules in
    λ s stands. number_refused_as g.H.Host.tells (held old) (g.H.Host.disk old.host) (g.H.View.View.content old.view) s stands c.args.at.now faults faults c.args.seq c.in_err-entry.field-0.0 c.from_residual.result c.in_err-entry.ensures is

pub returns-clause-reads : goal.returns-clause-reads
returns-clause-reads g c =
    let old = c.args.self.now.parts in
    let views = g.met.H.Host.views_tell in
    λ s stands. number_found_as g.H.Host.tells (held old) (g.H.Host.disk old.host) (g.H.View.View.content old.view) s stands c.args.at.now (g.H.View.View.faults old.view) (g.H.View.View.faults c.document.new.self.parts.view)
    g.H.View.View.tells views c.args.seq c.in_ok-entry.entry c.document.result c.in_ok-entry.ensures c.document.ensures.finds
