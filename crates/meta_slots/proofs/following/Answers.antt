use Rattle.std.proofs.Common.{◌≡◌, ◌<◌, ◌-◌, ◌^◌, Some, sym, ◌∙◌, ap, arith}
use Rattle.meta_slots.specs.Slots.{Slot, newer}
use Rattle.meta_slots.proofs.Readings.{newer-second, newer-first}
use Rattle.meta_slots.proofs.following.Goals as goal
use Rattle.meta_slots.proofs.following.Goals.{then-counts_second, else-counts_second}

pub overflow_add-generation : goal.overflow_add-generation
overflow_add-generation c =
    let now : Slot = (c.in_ok-generation.generation, c.in_ok-generation.field-0-1) in
    let is : Some now ≡ newer c.said_by-first.result c.said_by-second.result =
    elim c.if-counts_second.branch [
      | then-counts_second w ↦ newer-second c.said_by-first.result c.said_by-second.result now (sym w.if-counts_second.ensures) (sym (ap (λ p. p.0) w.now-is) ∙ c.in_ok-generation.was)
      | else-counts_second w ↦ newer-first c.said_by-first.result c.said_by-second.result now (sym w.if-counts_second.ensures) (sym (ap (λ p. p.0) w.now-is) ∙ c.in_ok-generation.was)
    ] in
    let below : now.0 < 2 ^ 64 - 1 = c.requires now (record { first = c.said_by-first.result; second = c.said_by-second.result; says_first = c.said_by-first.ensures; says_second = c.said_by-second.ensures; is = is }) in
    omega (arith, below)
