use Rattle.std.proofs.Common.{◌<◌, length, sym, ◌∙◌, arith}
use Rattle.file_commit.proofs.SameRows.{same_from}
use Rattle.file_commit.proofs.rows.are_same_rows.Goals as goal

pub returns-then-not-is_same_row : goal.returns-then-not-is_same_row
returns-then-not-is_same_row c =
    let now : c.loop-n.n < length c.args.now.now = omega arith in
    let before : c.loop-n.n < length c.args.before.now = omega arith in
    sym (c.loop-n.invariant ∙ same_from c.args.now.now c.args.before.now c.loop-n.n _ now before c.if-not-is_same_row.ensures)

pub loop-n-preserved : goal.loop-n-preserved
loop-n-preserved c =
    let now : c.loop-n.n < length c.args.now.now = omega arith in
    let before : c.loop-n.n < length c.args.before.now = omega arith in
    c.loop-n.invariant ∙ same_from c.args.now.now c.args.before.now c.loop-n.n _ now before c.if-not-is_same_row.ensures
