use Rattle.meta_slots.proofs.Readings.{says, same_kind}
use Rattle.meta_slots.proofs.said_by.Goals as goal

pub returns-then-kind-eq-META : goal.returns-then-kind-eq-META
returns-then-kind-eq-META c =
    says c.args.n c.in_ok-kind.kind c.in_ok-kind.payload.now c.args.block.now c.in_ok-kind.ensures c.numbers_of.result c.if-kind-eq-META.true c.numbers_of.ensures

pub returns-else-kind-eq-META : goal.returns-else-kind-eq-META
returns-else-kind-eq-META c slot is = c.if-kind-eq-META.false (same_kind c.args.n c.in_ok-kind.kind c.in_ok-kind.payload.now c.args.block.now c.in_ok-kind.ensures slot is)
