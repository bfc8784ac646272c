use Rattle.std.proofs.Common.{◌<◌, ◌^◌, rules}
use Rattle.std.specs.Prelude.{IfOk}
use Rattle.file_parts.specs.Moment.{moment}
use Rattle.file_core.proofs.StoreGone.{remove_updates}
use Rattle.file_core.proofs.state.FileState.store_remove.Goals as goal

pub returns-clause-updates : goal.returns-clause-updates
returns-clause-updates g c =
    let ranged : IfOk c.remove_store.result (λ id. id < 2 ^ 64) = search rules in
    remove_updates c.rules.ensures c.record_blocks.ensures c.puts_keep_records.ensures c.put_is_scanned.ensures g.H.Host.tells c.args.at.now c.args.name.now
    (moment c.args.self.now.parts)
    (moment c.remove_store.new.parts)
    c.remove_store.result ranged c.remove_store.ensures.answers
