use Rattle.file_parts.specs.Moment.{moment}
use Rattle.file_core.proofs.SetStands.{set_updates}
use Rattle.file_core.proofs.state.FileState.set.Goals as goal

pub returns-clause-updates : goal.returns-clause-updates
returns-clause-updates g c =
    set_updates c.rules.ensures c.record_blocks.ensures c.puts_keep_records.ensures c.put_stands.ensures.stands c.put_is_scanned.ensures g.H.Host.tells c.args.at.now c.args.key.now c.args.meta.now c.args.body.now
    (moment c.args.self.now.parts)
    (moment c.set.new.parts)
    c.set.result c.set.ensures.answers
