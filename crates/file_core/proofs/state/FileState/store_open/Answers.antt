use Rattle.file_parts.specs.Moment.{moment}
use Rattle.file_core.proofs.StoreMade.{open_updates}
use Rattle.file_core.proofs.state.FileState.store_open.Goals as goal

pub returns-clause-updates : goal.returns-clause-updates
returns-clause-updates g c =
    open_updates c.rules.ensures c.record_blocks.ensures c.puts_keep_records.ensures c.put_is_scanned.ensures g.H.Host.tells c.args.name.now c.args.read_only
    (moment c.args.self.now.parts)
    (moment c.open_store.new.parts)
    c.open_store.result c.open_store.ensures.answers
