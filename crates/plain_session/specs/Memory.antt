-- Where a plain session takes memory for a line, so that it may fail for want of it.
use Rattle.std.specs.Prelude.{◌≡◌, Bool, true, false, List, [], ◌∷◌, None, IfSome}
use Rattle.std.specs.Option.{option_map_or}
use Rattle.forest_model.specs.Session.{Session, call_in}
use Rattle.forest_model.specs.Step.{causes, first_cause}
use Rattle.forest_model.specs.declared.call.Call.{Call}
use Rattle.forest_model.specs.declared.call.Call.TheVariants.{SnapLatest, SnapAt}
use Rattle.forest_model.specs.declared.line.Line.{Line}
use Rattle.forest_model.specs.declared.line.Row.{Row}
use Rattle.forest_model.specs.declared.line.Said.{Said}
use Rattle.forest_model.specs.declared.line.Said.TheVariants.{Got, At, Listed}
use Rattle.forest_model.specs.declared.state.State.{State}
use Rattle.forest_oracle.specs.Memory.{takes_memory}
use Rattle.plain_session.specs.Plain.{said_by_lane}

-- a call that takes memory in the store, or that opens a snapshot, which is a copy
abbrev pub call_takes_memory : State → Call → Bool
call_takes_memory s SnapLatest = true
call_takes_memory s (SnapAt at seq) = true
call_takes_memory s call = takes_memory s call

-- there is a row
abbrev pub has_rows : List Row → Bool
has_rows [] = false
has_rows (row ∷ rows) = true

-- what is said by copying a document or rows; a list without rows is no copy
abbrev pub is_copy : Said → Bool
is_copy (Got found) = true
is_copy (At found) = true
is_copy (Listed rows) = has_rows rows
is_copy said = false

-- a line takes memory where its call does, or where the lane's snapshot says a document or rows
abbrev pub line_takes_memory : Session → Line → Bool
line_takes_memory w line =
    option_map_or (call_takes_memory w.state) (call_in w line) (is_copy (said_by_lane (w.lanes line.lane) line.verb).1)

-- nothing refuses the line's call
abbrev pub IsCallAnswered : Session → Line → Type 0
IsCallAnswered w line = IfSome (call_in w line) (λ call. first_cause (causes w.state call) ≡ None)
