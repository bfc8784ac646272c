use Rattle.meta_slots.proofs.Readings.{one_current}
use Rattle.meta_slots.proofs.current_is_one.Goals as goal

pub returns : goal.returns
returns c slot0 slot1 a b is is' = one_current slot0 slot1 a b is is'
