use Rattle.file_parts.specs.Moment.{moment}
use Rattle.file_commit.proofs.Commits.{commits_as}
use Rattle.file_commit.proofs.committing.commit.Goals as goal

pub returns-clause-commits : goal.returns-clause-commits
returns-clause-commits g c s f stands was =
    commits_as g.H.Host.tells c.args.at.now
    (moment c.args.file.now.parts)
    (moment c.commit_in.new.parts)
    s f stands was c.rules.ensures c.nothing_new.ensures c.pads_keep_records.ensures c.blocks_keep_records.ensures c.pad_is_scanned.ensures c.pass_is_scanned.ensures c.commit_in.result c.commit_in.ensures.answers
