use Rattle.file_parts.specs.Moment.{moment}
use Rattle.file_core.proofs.Deleted.{delete_updates}
use Rattle.file_core.proofs.state.FileState.delete.Goals as goal

pub returns-clause-updates : goal.returns-clause-updates
returns-clause-updates g c =
    delete_updates c.rules.ensures c.record_blocks.ensures c.puts_keep_records.ensures c.put_is_scanned.ensures g.H.Host.tells c.args.at.now c.args.key.now
    (moment c.args.self.now.parts)
    (moment c.delete.new.parts)
    c.delete.result c.delete.ensures.answers
