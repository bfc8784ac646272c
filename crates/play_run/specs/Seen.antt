-- What is seen of a disk from outside.
use Rattle.std.specs.Prelude.{◌≡◌, ◌≢◌, ℕ, List, ◌++◌}
use Rattle.block_host.specs.Disk.{Disk}
use Rattle.file_core.specs.Updates.{bytes_of}
use Rattle.forest_model.specs.Blocks.{File}

-- the current file as reads give it
abbrev pub current : Disk → File
current disk = bytes_of (disk.files 1)

-- the bytes said, and the current file
pub record Seen : Type 0 where
  pub said : List ℕ
  pub file : File

abbrev pub seen : Disk → Seen
seen disk = record { said = disk.said; file = current disk }

-- every file but the current one stays
abbrev pub OthersStay : Disk → Disk → Type 0
OthersStay old new = (other : ℕ) → other ≢ 1 → new.files other ≡ old.files other

-- a file begins with the blocks of another
abbrev pub BeginsWith : File → File → Type 0
BeginsWith front whole = (more : File) × (whole ≡ front ++ more)
