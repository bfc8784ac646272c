-- What an updating call of an open file answers and changes.
use Rattle.std.specs.Prelude.{◌≡◌, ◌≢◌, ◌⊎◌, ◌+◌, ◌≤◌, ℕ, Bool, false, IsTrue, List, [], ◌∷◌, ◌++◌, length, map, Option, Some, None, MatchOption, IfOk, IfErr, Result, Err}
use Rattle.std.specs.Option.{option_map_or}
use Rattle.block_host.specs.Disk.{risen}
use Rattle.block_host.specs.Sealed.{IsSealed}
use Rattle.block_host.specs.declared.block.Block.{Block}
use Rattle.doc_stream.specs.OpenBlock.{OpenBlock}
use Rattle.file_image.specs.Commits.{live_bytes}
use Rattle.forest_model.specs.Blocks.{File, last_header}
use Rattle.forest_model.specs.Run.{FileAfter, unflushed_from}
use Rattle.forest_model.specs.State.{nothing_new}
use Rattle.forest_model.specs.Step.{step_of}
use Rattle.forest_model.specs.declared.call.Call.{Call}
use Rattle.forest_model.specs.declared.call.Call.TheVariants as calls
use Rattle.forest_model.specs.declared.call.StoreRef.{StoreRef}
use Rattle.forest_model.specs.declared.call.Reply.{Reply}
use Rattle.forest_model.specs.declared.call.Reply.TheVariants.{Refused, Committed, Removed}
use Rattle.forest_model.specs.declared.refusal.Refusal.{Refusal}
use Rattle.forest_model.specs.declared.state.State.{State}
use Rattle.forest_model.specs.declared.stored.Header.{Header}
use Rattle.header_block.specs.Layout.{header_bytes}
use Rattle.file_parts.specs.Held.{Held}
use Rattle.file_parts.specs.Moment.{Moment}
use Rattle.file_core.specs.Stands.{Stands, row_in}

-- the bytes of a file's blocks
abbrev pub bytes_of : List Block → File
bytes_of = map (λ b. b.bytes)

abbrev pub StandsAt : Bool → Moment → State → Type 0
StandsAt told m s = Stands told m.held m.disk m.file s

-- The blocks of the current file as the sequential store sees them: where the file is told, those that the view shows.
-- The last header among them is the last commit's.
pub record IsFile (told : Bool) (p : Held) (file : List Block) (f : File) : Type 0 where
  pub shown : IsTrue told → f ≡ bytes_of file
  pub long : length f ≡ p.blocks
  pub header : last_header f ≡ Some p.header_at
  pub from : unflushed_from f ≡ p.header.wal_from

-- the stores that are gone, once a call replies: one that it removes is behind the others
abbrev pub gone_by : Reply → List ℕ → List ℕ
gone_by (Removed id) gone = gone ++ id ∷ []
gone_by reply gone = gone

-- a count of faults rose
abbrev pub Troubled : Moment → Moment → Type 0
Troubled old new = (risen old.host_faults ≤ new.host_faults) ⊎ (risen old.view_faults ≤ new.view_faults)

-- An update answers what the step answers over the current file, and the file stands for the state after it, with the blocks
-- that the update adds, and only a removal has a store go; a refusal of the step is its answer and leaves the state. Else
-- memory was refused, which leaves the state too, or a count of faults rose.
pub record UpdatesAs {T : Type 0} (told : Bool) (reply : T → Reply) (s : State) (f : File) (call : Call) (old new : Moment) (result : Result T Refusal) : Type 0 where
  pub done : IfOk result (λ value. ((step_of s f call).0 ≡ reply value) × StandsAt told new (step_of s f call).1
      × ((grown : File) × FileAfter s f (Some call) (step_of s f call).1 grown × IsFile told new.held new.file grown))
  pub gone : IfOk result (λ value. new.held.wal.gone ≡ gone_by (reply value) old.held.wal.gone)
  pub refused : (why : Refusal) → (step_of s f call).0 ≡ Refused why → result ≡ Err why
  pub reason : IfErr result (λ why. (((step_of s f call).0 ≡ Refused why) × StandsAt told new s × IsFile told new.held new.file f)
      ⊎ ((why ≡ Refusal.NoMemory) × StandsAt told new s × IsFile told new.held new.file f)
      ⊎ ((why ≡ Refusal.DiskFault) × Troubled old new))

-- so it does from each state and file for which the open file stands
abbrev pub Updates : {T : Type 0} → Bool → (T → Reply) → Call → Moment → Moment → Result T Refusal → Type 0
Updates told reply call old new result = (s : State) (f : File) → StandsAt told old s → IsFile told old.held old.file f → UpdatesAs told reply s f call old new result

-- the open block as a block of the file, where it has bytes
abbrev pub IsOpenBlock : ℕ → OpenBlock → Option Block → Type 0
IsOpenBlock revision tail block = MatchOption block (tail.bytes ≡ []) (λ b. (tail.bytes ≢ []) × IsSealed revision tail.number 1 tail.bytes b)

abbrev pub listed : Option Block → List Block
listed block = option_map_or (λ b. b ∷ []) block []

-- The header that a commit puts behind a file, by the state that it leaves: it links to the file's last header, names no
-- trees so far, and has its records from where the last one had them.
abbrev pub header_of : State → File → Header
header_of s f = record {
  commit = s.last.number;
  next_commit = s.next_commit;
  previous = last_header f;
  key = None;
  seq = None;
  wal_from = unflushed_from f;
  live = live_bytes s.documents;
  next_store = s.next_store;
  stores = map (row_in s.documents) s.stores;
}

-- What is put at the end of the current file: the open block, where it has bytes, and behind it a header, which is sealed
-- for the file, its number and its kind, with exactly the bytes of this one.
pub record PutsHeader (h : Header) (old new : Moment) : Type 0 where
  pub block : Option Block
  pub header : Block
  pub open_block : IsOpenBlock old.held.revision old.held.tail block
  pub files : new.disk.files old.held.revision ≡ old.disk.files old.held.revision ++ listed block ++ header ∷ []
  pub is_sealed : IsSealed old.held.revision (length (old.disk.files old.held.revision) + length (listed block)) 4 (header_bytes h) header

-- A commit is the same, but memory is never refused. Where something is new, it puts the header of the state that it leaves;
-- no store goes.
pub record CommitsAs (told : Bool) (s : State) (f : File) (at : StoreRef) (old new : Moment) (result : Result ℕ Refusal) : Type 0 where
  pub done : IfOk result (λ number. ((step_of s f (calls.Commit at)).0 ≡ Committed number) × StandsAt told new (step_of s f (calls.Commit at)).1
      × ((grown : File) × FileAfter s f (Some (calls.Commit at)) (step_of s f (calls.Commit at)).1 grown × IsFile told new.held new.file grown))
  pub gone : IfOk result (λ number. new.held.wal.gone ≡ old.held.wal.gone)
  pub puts : IfOk result (λ number. IsTrue told → nothing_new s ≡ false → PutsHeader (header_of (step_of s f (calls.Commit at)).1 f) old new)
  pub refused : (why : Refusal) → (step_of s f (calls.Commit at)).0 ≡ Refused why → result ≡ Err why
  pub reason : IfErr result (λ why. (((step_of s f (calls.Commit at)).0 ≡ Refused why) × StandsAt told new s × IsFile told new.held new.file f)
      ⊎ ((why ≡ Refusal.DiskFault) × Troubled old new))

abbrev pub Commits : Bool → StoreRef → Moment → Moment → Result ℕ Refusal → Type 0
Commits told at old new result = (s : State) (f : File) → StandsAt told old s → IsFile told old.held old.file f → CommitsAs told s f at old new result
