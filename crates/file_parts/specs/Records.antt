-- What a record that is put into an open file leaves.
use Rattle.std.specs.Prelude.{◌≡◌, ◌⊎◌, ◌≤◌, ◌<◌, ◌^◌, ◌++◌, Bool, List, [], IsTrue}
use Rattle.block_host.specs.Disk.{risen}
use Rattle.block_host.specs.declared.block.Block.{Block}
use Rattle.doc_stream.specs.OpenBlock.{PutsBytes}
use Rattle.forest_model.specs.Records.{record_bytes}
use Rattle.forest_model.specs.declared.refusal.Refusal.{Refusal}
use Rattle.forest_model.specs.declared.refusal.Refusal.TheVariants.{NoMemory, DiskFault}
use Rattle.forest_model.specs.declared.stored.Rec.{Rec}
use Rattle.file_parts.specs.Causes.{OnlyMemory}
use Rattle.file_parts.specs.Moment.{Moment}

-- What a record that is put leaves: its bytes are behind those of the open block, and the full blocks at the file's end.
pub record PutsRecord (told : Bool) (r : Rec) (old new : Moment) : Type 0 where
  pub out : List Block
  pub put : PutsBytes old.held.revision (record_bytes r) old.held.tail new.held.tail [] out
  pub files : IsTrue told → new.disk.files old.held.revision ≡ old.disk.files old.held.revision ++ out
  pub shown : IsTrue told → old.file ≡ old.disk.files old.held.revision → new.file ≡ new.disk.files old.held.revision

-- why a record isn't put for which there is room
abbrev pub NotPut : Moment → Moment → Refusal → Type 0
NotPut old new why = ((why ≡ NoMemory) × OnlyMemory old new) ⊎ ((why ≡ DiskFault) × (risen old.host_faults ≤ new.host_faults)) ⊎ (2 ^ 32 < old.held.tail.number)
