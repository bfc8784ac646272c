-- What a session of lanes over an open file stands for, and what it answers to a line.
use Rattle.std.specs.Prelude.{◌≡◌, ◌<◌, ℕ, Bool, IsTrue, List, Option, Some, None, slice_get}
use Rattle.block_host.specs.Disk.{Disk}
use Rattle.block_host.specs.declared.block.Block.{Block}
use Rattle.block_host.specs.declared.fresh.Fresh as Fresh
use Rattle.block_host.specs.declared.host.Host as Host
use Rattle.block_host.specs.declared.view.View as View
use Rattle.file_parts.specs.Held.{Held, held}
use Rattle.file_core.specs.Stands.{Stands}
use Rattle.file_core.specs.Updates.{IsFile}
use Rattle.file_parts.specs.declared.parts.Parts.{Parts}
use Rattle.forest_model.specs.Blocks.{File}
use Rattle.forest_model.specs.Run.{FileAfter}
use Rattle.forest_model.specs.Session.{Session, IsTurn, call_in, call_of, said_of}
use Rattle.forest_model.specs.Step.{step_of}
use Rattle.forest_model.specs.declared.call.Call.{Call}
use Rattle.forest_model.specs.declared.call.Reply.{Reply}
use Rattle.forest_model.specs.declared.call.Reply.TheVariants.{Store}
use Rattle.forest_model.specs.declared.call.StoreRef.{StoreRef}
use Rattle.forest_model.specs.declared.line.Line.{Line}
use Rattle.forest_model.specs.declared.line.Said.{Said}
use Rattle.forest_model.specs.declared.line.Told.{Told}
use Rattle.forest_model.specs.declared.line.Verb.{Verb}
use Rattle.forest_model.specs.declared.state.State.{State}
use Rattle.play_run.specs.Seen.{Seen, seen}

-- an open file: what it has in memory, its host's disk, and the blocks that its view shows
pub record Opened : Type 1 where
  pub held : Held
  pub disk : Disk
  pub blocks : List Block

abbrev pub opened : {H V F : Type 0} {h : Host.Ghosts H V F} {v : View.Ghosts V} {f : Fresh.Ghosts F} → Parts H V F h v f → Opened
opened {H} {V} {F} {h} {v} {f} p = record { held = held p; disk = h.disk p.host; blocks = v.content p.view }

-- its disk, and what is seen of that
abbrev pub disk_of : {H V F : Type 0} {h : Host.Ghosts H V F} {v : View.Ghosts V} {f : Fresh.Ghosts F} → Parts H V F h v f → Disk
disk_of {H} {V} {F} {h} {v} {f} p = h.disk p.host

abbrev pub seen_of : {H V F : Type 0} {h : Host.Ghosts H V F} {v : View.Ghosts V} {f : Fresh.Ghosts F} → Parts H V F h v f → Seen
seen_of {H} {V} {F} {h} {v} {f} p = seen (h.disk p.host)

-- with the store of each of the sixteen lanes
pub record Position : Type 1 where
  pub file : Opened
  pub lanes : List StoreRef

abbrev pub position : {H V F : Type 0} {h : Host.Ghosts H V F} {v : View.Ghosts V} {f : Fresh.Ghosts F} → Parts H V F h v f → List StoreRef → Position
position p lanes = record { file = opened p; lanes = lanes }

-- an open file stands for a state and a file
pub record StandsFor (tells : Bool) (o : Opened) (s : State) (f : File) : Type 0 where
  pub stands : Stands tells o.held o.disk o.blocks s
  pub file : IsFile tells o.held o.blocks f

-- A session of the sequential store, and its file, for which a position stands. The current file is file 1.
pub record IsAt (tells : Bool) (m : Position) (w : Session) (f : File) : Type 0 where
  pub file : StandsFor tells m.file w.state f
  pub lanes : (n : ℕ) → n < 16 → slice_get m.lanes n ≡ Some (w.lanes n).at
  pub first_file : m.file.held.revision ≡ 1

abbrev pub IsSomewhere : Bool → Position → Type 0
IsSomewhere tells m = (w : Session) × (f : File) × IsAt tells m w f

-- the call that a line of a lane with this store makes
abbrev pub call_at : StoreRef → Verb → Option Call
call_at at verb = call_of (record { at = at; printed = 0; snapshot = None }) None verb

-- the store of a lane after a reply
abbrev pub store_after : StoreRef → Reply → StoreRef
store_after before (Store at) = at
store_after before reply = before

-- A call, as the step takes it from a state and a file: what is said for it, and the state and the file after it. Where the
-- file isn't told, a document that is found may be another.
pub record Steps (tells : Bool) (call : Call) (before after : StoreRef) (new : Opened) (s : State) (f : File) (said : Said) : Type 0 where
  pub said_is : IsTrue tells → said ≡ said_of call (step_of s f call).0
  pub at_is : after ≡ store_after before (step_of s f call).0
  pub grown : File
  pub grows : FileAfter s f (Some call) (step_of s f call).1 grown
  pub now : StandsFor tells new (step_of s f call).1 grown

-- An open file answers a verb of a lane: by the step of its call from every state and file for which it stands.
pub record Answers (tells : Bool) (verb : Verb) (before after : StoreRef) (old new : Opened) (said : Said) : Type 0 where
  pub call : Call
  pub is_call : call_at before verb ≡ Some call
  pub steps : (s : State) (f : File) → StandsFor tells old s f → Steps tells call before after new s f said

-- The turn of a line leads a session to the next one, and this is told for it, where the file is told.
pub record Leads (tells : Bool) (new : Position) (w : Session) (f : File) (line : Line) (t : Told) : Type 0 where
  pub next : Session
  pub grown : File
  pub told : Told
  pub turn : IsTurn w f line next told
  pub grows : FileAfter w.state f (call_in w line) next.state grown
  pub now : IsAt tells new next grown
  pub same : IsTrue tells → t ≡ told

-- a line leads every session for which a position stands to one for which the next position stands
abbrev pub LeadsEach : Bool → Position → Position → Line → Told → Type 0
LeadsEach tells old new line t = (w : Session) (f : File) → IsAt tells old w f → Leads tells new w f line t
