-- What a sound value shows, which the tests take in turns: a store in which a compaction runs that is switched, a second one is begun, and its switch stops the value.
use Rattle.std.specs.Prelude.{◌≡◌, ℕ, zero, suc, ◌+◌, ◌≤◌, ◌⊎◌, List, [], ◌∷◌, Contains, Some, None}
use Rattle.std.proofs.Common.{le_trans}
use Rattle.forest_model.specs.Covers.{Weakens}
use Rattle.forest_model.specs.State.{Durable, new_state, new_durable, usual_limits}
use Rattle.forest_model.specs.declared.held.Point.{Point}
use Rattle.forest_model.specs.declared.state.State.{State}

-- what is durable after a number of switches
abbrev pub switched_durable : ℕ → Durable
switched_durable switches = record new_durable { revision = switches + 1; generation = switches + 1 }

-- the state after a number of updates, of which there are two
abbrev pub turned : ℕ → State
turned zero = record (new_state usual_limits) { next_ticket = 2; copying = Some (record { ticket = 1; base = 0 }) }
turned (suc zero) = record (new_state usual_limits) { next_ticket = 2; revision = 2; generation = 2; place = 1 }
turned (suc (suc n)) = record (new_state usual_limits) { next_ticket = 3; copying = Some (record { ticket = 2; base = 0 }); revision = 2; generation = 2; place = 2 }

-- the value after a number of steps: the third stops it
abbrev pub turning : ℕ → Point
turning zero = record { state = turned 0; blocks = (0 ∷ []) ∷ []; base = 0; host_faults = 0; view_faults = 0; stopped = None; clock = 1 }
turning (suc zero) = record { state = turned 1; blocks = (0 ∷ []) ∷ []; base = 1; host_faults = 0; view_faults = 0; stopped = None; clock = 2 }
turning (suc (suc zero)) = record { state = turned 2; blocks = (0 ∷ []) ∷ []; base = 1; host_faults = 0; view_faults = 0; stopped = None; clock = 2 }
turning (suc (suc (suc n))) = record { state = turned 2; blocks = (0 ∷ []) ∷ []; base = 1; host_faults = 1; view_faults = 0; stopped = Some 0; clock = 3 }

-- up to the clock at which the first switch began, the new store may be found, and from then on the switched one
abbrev pub TellsSwitched : ℕ → Durable → Type 0
TellsSwitched moment d = ((moment ≤ 1) × (d ≡ switched_durable 0)) ⊎ (d ≡ switched_durable 1)

-- what an image of this moment may stand for, after a number of steps
abbrev pub Tells : ℕ → ℕ → Durable → Type 0
Tells zero moment d = d ≡ switched_durable 0
Tells (suc zero) moment d = TellsSwitched moment d
Tells (suc (suc zero)) moment d = TellsSwitched moment d
Tells (suc (suc (suc n))) moment d = TellsSwitched moment d ⊎ (d ≡ switched_durable 2)

-- all that an image of a moment since then may stand for is in the list
abbrev pub covers_told : ℕ → ℕ → List Durable → Type 0
covers_told steps since list = (moment : ℕ) (d : Durable) → since ≤ moment → Tells steps moment d → Contains list d

pub told_weakens : (steps : ℕ) → Weakens (covers_told steps)
told_weakens steps = record {
  later = λ since after list le h moment d from t. h moment d (le_trans le from) t;
  longer = λ since short long within h moment d from t. within d (h moment d from t);
}
