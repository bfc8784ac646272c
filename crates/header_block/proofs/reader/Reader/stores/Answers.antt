use Rattle.std.proofs.Common.{◌≡◌, ◌*◌, length, ap, ◌∙◌, arith}
use Rattle.header_block.proofs.ReadBack.{length-stores, next_read}
use Rattle.header_block.proofs.reader.Reader.stores.Goals as goal
use Rattle.header_block.proofs.reader.Reader.stores.Goals.{then-count-gt64-via-then-count-gt64, then-count-gt64-via-else-count-gt64+then-self-count}

pub returns-then-count-gt64 : goal.returns-then-count-gt64
returns-then-count-gt64 c next rows small counted most are_rows is =
    let long : length c.args.self.now.rest.now ≡ 56 * length rows = ap length is ∙ length-stores next rows small are_rows in
    elim c.then-count-gt64.branch [
      | then-count-gt64-via-then-count-gt64 w ↦ absurd (omega (arith, w.if-count-gt64.true))
      | then-count-gt64-via-else-count-gt64+then-self-count w ↦ absurd (omega (arith, w.if-self-count.true))
    ]

pub loop-preserved : goal.loop-preserved
loop-preserved c =
    next_read c.args.self.now.rest.now c.args.count c.loop.counter c.loop.stores c.loop.self.rest.now (record { id = c.store-id.result.0; name = c.store-id.result.1.now; seq = c.store-id.result.2; documents = c.store-id.result.3 })
    c.push.new.self c.store-id.new.self.rest.now c.loop.invariant c.loop-test.true c.push.ensures c.store-id.ensures.len c.store-id.ensures.back
