use Rattle.std.proofs.Common.{◌<◌, length, sym, ◌∙◌, arith}
use Rattle.header_block.specs.Layout.{is_before}
use Rattle.header_block.proofs.Places.{list_all_passed, list_all_failed}
use Rattle.header_block.proofs.rules.is_before_later.Goals as goal

pub returns-then-not-is_before : goal.returns-then-not-is_before
returns-then-not-is_before c s is =
    let within : c.loop-later.later < length c.args.stores.now = omega arith in
    sym (c.loop-later.invariant s is ∙ list_all_failed (is_before s) c.args.stores.now c.loop-later.later within (λ t there. c.if-not-is_before.ensures s t is there))

pub loop-later-preserved : goal.loop-later-preserved
loop-later-preserved c s is =
    let within : c.loop-later.later < length c.args.stores.now = omega arith in
    c.loop-later.invariant s is ∙ list_all_passed (is_before s) c.args.stores.now c.loop-later.later within (λ t there. c.if-not-is_before.ensures s t is there)
