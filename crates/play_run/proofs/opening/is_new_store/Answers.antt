use Rattle.std.proofs.Common.{subst, ◌≡◌}
use Rattle.block_host.specs.Calls.{block_at}
use Rattle.block_host.specs.declared.block.Block.{Block}
use Rattle.std.specs.Prelude.{IsTrue, ◌↔◌}
use Rattle.play_run.proofs.Starting.{new_store_by}
use Rattle.play_run.proofs.opening.is_new_store.Goals as goal

pub returns-then-zeros-clause-is : goal.returns-then-zeros-clause-is
returns-then-zeros-clause-is g c = λ tells.
    new_store_by _ _ _ _ _ c.first_slot.result c.first_header-header.result c.in_ok-meta.meta c.in_ok-file.file c.in_ok-slot.slot c.in_ok-zeros.zeros c.in_ok-first.first
    (c.in_ok-meta.ensures.files tells) (c.in_ok-file.ensures.files tells) (c.in_ok-slot.ensures.files tells) (c.in_ok-zeros.ensures.files tells)
    c.first_slot.ensures c.first_header-header.ensures (c.in_ok-meta.ensures.is tells) (c.in_ok-file.ensures.is tells) (c.in_ok-slot.ensures.is tells)
    (subst (λ (b : Block). IsTrue c.in_ok-zeros.zeros ↔ (block_at ((g.H.Host.disk c.is_block.new.host).files 0) 1 ≡ b)) c.zeros.ensures.value (c.in_ok-zeros.ensures.is tells)) (c.in_ok-first.ensures.is tells)
    c.if-zeros.true.0 c.if-zeros.true.1 c.if-zeros.true.2 c.if-zeros.true.3
