use Rattle.std.proofs.Common.{◌<◌, length, sym, ◌∙◌, arith}
use Rattle.header_block.specs.Layout.{is_row}
use Rattle.header_block.proofs.Places.{list_all_passed, list_all_failed}
use Rattle.header_block.proofs.rules.are_rows.Goals as goal

pub returns-then-not-is_row_at : goal.returns-then-not-is_row_at
returns-then-not-is_row_at c =
    let within : c.loop-n.n < length c.args.stores.now = omega arith in
    sym (c.loop-n.invariant ∙ list_all_failed (is_row c.args.next) c.args.stores.now c.loop-n.n within c.if-not-is_row_at.ensures)

pub loop-n-preserved : goal.loop-n-preserved
loop-n-preserved c =
    let within : c.loop-n.n < length c.args.stores.now = omega arith in
    c.loop-n.invariant ∙ list_all_passed (is_row c.args.next) c.args.stores.now c.loop-n.n within c.if-not-is_row_at.ensures
