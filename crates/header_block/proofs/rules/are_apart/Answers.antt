use Rattle.std.proofs.Common.{◌<◌, length, sym, ◌∙◌, arith}
use Rattle.header_block.proofs.Places.{are_apart_passed, are_apart_failed}
use Rattle.header_block.proofs.rules.are_apart.Goals as goal

pub returns-then-not-is_before_later : goal.returns-then-not-is_before_later
returns-then-not-is_before_later c =
    let within : c.loop-n.n < length c.args.stores.now = omega arith in
    sym (c.loop-n.invariant ∙ are_apart_failed c.args.stores.now c.loop-n.n within c.if-not-is_before_later.ensures)

pub loop-n-preserved : goal.loop-n-preserved
loop-n-preserved c =
    let within : c.loop-n.n < length c.args.stores.now = omega arith in
    c.loop-n.invariant ∙ are_apart_passed c.args.stores.now c.loop-n.n within c.if-not-is_before_later.ensures
