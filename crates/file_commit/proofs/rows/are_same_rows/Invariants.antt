use Rattle.std.proofs.Common.{◌≡◌, drop}
use Rattle.file_commit.specs.Committing.{are_same_rows}
use Rattle.file_commit.proofs.rows.are_same_rows.Given as goal

abbrev pub invariant-loop-n : goal.invariant-loop-n
invariant-loop-n l = are_same_rows l.now l.before ≡ are_same_rows (drop l.n l.now) (drop l.n l.before)
