use Rattle.std.proofs.Common.{◌≡◌, Some, arith, ap}
use Rattle.std.proofs.lemmas.Option.{same_Some}
use Rattle.meta_slots.specs.Slots.{Slot}
use Rattle.meta_slots.proofs.tests.after.Goals as goal

pub following-requires : goal.following-requires
following-requires c now is =
    let same : now ≡ (c.in_ok-generation.generation, c.in_ok-generation.field-0-1) = same_Some _ _ (c.in_ok-generation.ensures.only (Some now) is) in
    let generation = ap (λ (slot : Slot). slot.0) same in
    omega (arith, generation)
