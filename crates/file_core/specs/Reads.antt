-- What a read of an open file answers.
use Rattle.std.specs.Prelude.{◌≡◌, ◌⊎◌, ◌≤◌, ℕ, Bool, IsTrue, List, IfOk, IfErr, Option, Some, Result, Ok, Err}
use Rattle.block_host.specs.Disk.{Disk, risen}
use Rattle.block_host.specs.declared.block.Block.{Block}
use Rattle.forest_model.specs.Step.{step_with_room}
use Rattle.forest_model.specs.declared.call.Call.{Call}
use Rattle.forest_model.specs.declared.call.Found.{Found}
use Rattle.forest_model.specs.declared.call.Reply.TheVariants.{Document, Refused}
use Rattle.forest_model.specs.declared.refusal.Refusal.{Refusal}
use Rattle.forest_model.specs.declared.refusal.Refusal.TheVariants as refusals
use Rattle.forest_model.specs.declared.state.State.{State}
use Rattle.file_parts.specs.Held.{Held}
use Rattle.file_core.specs.Stands.{Stands}

-- no memory, or a view that failed; of a file that isn't told also a block that isn't there or isn't well-formed
abbrev pub ReadFails : Bool → ℕ → ℕ → ℕ → Refusal → Type 0
ReadFails told revision before after why =
    (why ≡ Refusal.NoMemory) ⊎ ((why ≡ Refusal.DiskFault) × (risen before ≤ after))
    ⊎ ((block : ℕ) × (why ≡ Refusal.Damaged revision block) × (IsTrue told → ⊥))

-- A read of a document answers what the step answers, or fails by the reasons of a read alone.
pub record ReadsAs (told : Bool) (s : State) (call : Call) (revision before after : ℕ) (result : Result Found Refusal) : Type 0 where
  -- what is found is the document, where the file is told
  pub found : IfOk result (λ found. IsTrue told → step_with_room s call ≡ (Document found, s))
  -- a document that is found is there
  pub there : IfOk result (λ found. (other : Found) × (step_with_room s call ≡ (Document other, s)) × (found.seq ≡ other.seq))
  -- a refusal of the step is the answer
  pub refused : (why : Refusal) → step_with_room s call ≡ (Refused why, s) → result ≡ Err why
  pub reason : IfErr result (λ why. (step_with_room s call ≡ (Refused why, s)) ⊎ ReadFails told revision before after why)

-- of a file that stands for a state
abbrev pub ReadsFrom : Bool → Held → Disk → List Block → ℕ → ℕ → Call → Result Found Refusal → Type 0
ReadsFrom told p disk file before after call result =
    (s : State) → Stands told p disk file s → ReadsAs told s call p.revision before after result

-- What a refused read leaves in memory: a failed disk and a damaged block stop the file, at this count of the host's faults.
abbrev pub refused_leaves : ℕ → Held → Refusal → Held
refused_leaves faults p refusals.DiskFault = record p { stopped = Some faults }
refused_leaves faults p (refusals.Damaged file block) = record p { stopped = Some faults }
refused_leaves faults p why = p

abbrev pub read_leaves : {T : Type 0} → ℕ → Held → Result T Refusal → Held
read_leaves faults p (Ok value) = p
read_leaves faults p (Err why) = refused_leaves faults p why

-- the damaged block by which the file has stopped, after a refused read
abbrev pub refused_notes : Option (ℕ × ℕ) → Refusal → Option (ℕ × ℕ)
refused_notes noted (refusals.Damaged file block) = Some (file, block)
refused_notes noted why = noted

abbrev pub read_notes : {T : Type 0} → Option (ℕ × ℕ) → Result T Refusal → Option (ℕ × ℕ)
read_notes noted (Ok value) = noted
read_notes noted (Err why) = refused_notes noted why
