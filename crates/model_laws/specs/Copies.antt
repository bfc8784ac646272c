-- What a rollback copies: the record blocks of the commit's header, which is found along the links from header to header.
use Rattle.std.specs.Prelude.{◌≡◌, ◌≢◌, ℕ, zero, suc, ◌+◌, ◌<◌, ◌&&◌, ◌==◌, [], ◌∷◌, ◌++◌, length, nat_le, if◌then◌else◌}
use Rattle.forest_model.specs.Blocks.{File, block_at, kind_of, commit_number, previous_link, wal_from, blocks_of_commit, blocks_to_copy}

-- The block is a header, and none behind it is one.
pub record IsLastHeader (file : File) (at : ℕ) : Type 0 where
  pub within : at < length file
  pub header : kind_of (block_at file at) ≡ 4
  pub last : (k : ℕ) → at < k → k < length file → kind_of (block_at file k) ≢ 4

-- From one header over so many links, each to a header before, one comes to another, which has this number; none that was passed has it.
abbrev pub LeadsTo : File → ℕ → ℕ → ℕ → ℕ → Type 0
LeadsTo file number zero from at = (from ≡ at) × (commit_number (block_at file at) ≡ number)
LeadsTo file number (suc links) from at =
    (commit_number (block_at file from) ≢ number)
    × ((next : ℕ) × (previous_link (block_at file from) ≡ next + 1) × (next < from) × LeadsTo file number links next at)

-- those of the blocks from one on, and below another, that have records, in their order
abbrev pub records_in : File → ℕ → ℕ → File
records_in file from zero = []
records_in file from (suc k) = records_in file from k ++ (if nat_le from k && (kind_of (block_at file k) == 1) then block_at file k ∷ [] else [])

-- a rollback copies the record blocks below the header of its commit, from the block on that this header names, and is counted as so many
abbrev pub CopiesOf : Type 0
CopiesOf = (file : File) (number last links at : ℕ) → IsLastHeader file last → LeadsTo file number links last at
    → (blocks_of_commit file number ≡ records_in file (wal_from (block_at file at)) at)
    × (blocks_to_copy file number ≡ length (records_in file (wal_from (block_at file at)) at))
