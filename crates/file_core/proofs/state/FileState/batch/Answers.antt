use Rattle.file_parts.specs.Moment.{moment}
use Rattle.file_core.proofs.Batched.{batch_updates}
use Rattle.file_core.proofs.state.FileState.batch.Goals as goal

pub returns-clause-updates : goal.returns-clause-updates
returns-clause-updates g c =
    batch_updates c.rules.ensures c.record_blocks.ensures c.puts_keep_records.ensures c.put_stands.ensures.stands c.puts_join.ensures.join c.puts_join.ensures.none c.put_is_scanned.ensures g.H.Host.tells c.args.at.now c.args.items.now c.requires.some
    (moment c.args.self.now.parts)
    (moment c.batch.new.parts)
    c.batch.result c.batch.ensures.answers
