-- What a counter shows, which the tests take in turns: its count as the place, and nothing else.
use Rattle.std.specs.Prelude.{ℕ, [], None}
use Rattle.forest_model.specs.State.{new_state, usual_limits}
use Rattle.forest_model.specs.declared.held.Point.{Point}

abbrev pub counted : ℕ → Point
counted n = record { state = record (new_state usual_limits) { place = n }; blocks = []; base = 0; host_faults = 0; view_faults = 0; stopped = None; clock = 0 }
