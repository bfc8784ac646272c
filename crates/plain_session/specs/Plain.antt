-- What a plain session shows: the session of the definitions that it stands for.
use Rattle.std.specs.Prelude.{◌≡◌, ℕ, ◌<◌, Option, Some, None, slice_get, if◌then◌else◌}
use Rattle.std.specs.Option.{option_map, option_map_or}
use Rattle.forest_model.specs.Blocks.{File}
use Rattle.forest_model.specs.Session as sessions
use Rattle.forest_model.specs.Step.{step_of, step_with_room}
use Rattle.forest_model.specs.declared.call.Call.{Call}
use Rattle.forest_model.specs.declared.line.Line.{Line}
use Rattle.forest_model.specs.declared.line.Said.{Said}
use Rattle.forest_model.specs.declared.line.Told.{Told}
use Rattle.forest_model.specs.declared.line.Verb.{Verb}
use Rattle.plain_session.specs.declared.lane.Copier.{Copier}
use Rattle.plain_session.specs.declared.lane.Lane.{Lane}
use Rattle.plain_session.specs.declared.session.PlainSession.{PlainSession}
use Rattle.plain_session.specs.declared.snapshot.Snapshot.{Snapshot}

-- the same snapshot, lane and copier, as the definitions have them; the copier never fails
abbrev pub snapshot_shown : Snapshot → sessions.Snapshot
snapshot_shown s = record { place = s.place; stores = s.stores; documents = s.documents; commit = s.commit }

abbrev pub lane_shown : Lane → sessions.Lane
lane_shown l = record { at = l.at; printed = l.printed; snapshot = option_map snapshot_shown l.snapshot }

abbrev pub copier_shown : Copier → sessions.Copier
copier_shown c = record { ticket = c.ticket; base = c.base; place = c.place; left = c.left; failed = None }

-- A session that a plain session shows: its state is the oracle's, each of its sixteen lanes is the lane of that number, and its copier is the copier.
pub record Shows (p : PlainSession) (w : sessions.Session) : Type 0 where
  pub state : w.state ≡ p.oracle.state
  pub lanes : (n : ℕ) → n < 16 → option_map lane_shown (slice_get p.lanes.items n) ≡ Some (w.lanes n)
  pub copier : w.copier ≡ option_map copier_shown p.copier

-- the file isn't full at the call that a line makes, if it makes one
abbrev pub IsRoomFor : sessions.Session → File → Option Call → Type 0
IsRoomFor w file None = Unit {0}
IsRoomFor w file (Some call) = step_of w.state file call ≡ step_with_room w.state call

abbrev pub HasRoom : sessions.Session → File → Line → Type 0
HasRoom w file line = IsRoomFor w file (sessions.call_in w line)

-- what a line on the lane's snapshot is told, with its place, and the lane after it
abbrev pub said_by_lane : sessions.Lane → Verb → ℕ × Said
said_by_lane lane verb = option_map_or (λ s. (s.place, sessions.shown s lane.at verb)) lane.snapshot (lane.printed, sessions.not_shown verb)

abbrev pub lane_after_line : sessions.Lane → Verb → sessions.Lane
lane_after_line lane verb = option_map_or (λ s. record lane { printed = s.place; snapshot = if sessions.is_close verb then None else Some s }) lane.snapshot lane

-- a plain session shows the session that a turn leaves, and the line is told what the turn tells
abbrev pub ShowsTurn : PlainSession → sessions.Turn → Told → Type 0
ShowsTurn p turn t = (turn.1 ≡ t) × Shows p turn.0

-- the same of a line that may be told nothing, and then leaves the session as it was
abbrev pub ShowsTurnIfAny : PlainSession → sessions.Session → Option sessions.Turn → Option Told → Type 0
ShowsTurnIfAny p w turn None = (turn ≡ None) × Shows p w
ShowsTurnIfAny p w turn (Some t) = (next : sessions.Session) × (turn ≡ Some (next, t)) × Shows p next
