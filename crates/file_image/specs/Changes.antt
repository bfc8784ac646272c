-- What an image stands for after a change, by the blocks up to its last header.
use Rattle.std.specs.Prelude.{◌≡◌, ℕ, ◌≤◌, List, [], ◌∷◌}
use Rattle.block_host.specs.Disk.{Image}
use Rattle.block_host.specs.declared.block.Block.{Block}
use Rattle.forest_model.specs.State.{Durable}
use Rattle.forest_model.specs.declared.state.Commit.{Commit}
use Rattle.forest_model.specs.declared.stored.Header.{Header}
use Rattle.header_block.specs.Headers.{AreLinked, IsHeaderAt, IsLast, LinksTo, Placed, SameUpTo}
use Rattle.file_image.specs.Commits.{AreCommitsOf, IsCommitOf}
use Rattle.file_image.specs.Stands.{Stands, StandsBy}

-- an image stands for no two
abbrev pub StandsForOne : Type 0
StandsForOne = (image : Image) (d e : Durable) → Stands image d → Stands image e → d ≡ e

-- An image that agrees with another as far as a block of the current file: in the meta file, in the blocks up to that
-- one, and no sealed header lies behind it.
pub record IsAsFarAs (revision at : ℕ) (base image : Image) : Type 0 where
  pub meta : image 0 ≡ base 0
  pub same : SameUpTo at (base revision) (image revision)
  pub last : IsLast revision (image revision) at

-- a file that is the same up to its last header, with no sealed header behind, stands for the same by it
abbrev pub StaysBy : Type 0
StaysBy = (old new : List Block) (at : ℕ) (h : Header) (d : Durable) → StandsBy old at h d → SameUpTo at old new → IsLast d.revision new at → StandsBy new at h d

-- so does an image that agrees with one as far as its last header
abbrev pub Keep : Type 0
Keep = (base image : Image) (d : Durable) → (s : Stands base d) → IsAsFarAs d.revision s.at base image → Stands image d

-- the first of these headers lies no higher than a block
abbrev pub BeginUpTo : ℕ → List Placed → Type 0
BeginUpTo upto [] = Unit {0}
BeginUpTo upto (h ∷ older) = h.0 ≤ upto

-- A file that is the same up to a block has a last header with its commit, which links to headers up to there, or to none.
pub record Adds (revision : ℕ) (old new : List Block) (upto : ℕ) (headers : List Placed) (at : ℕ) (h : Header) (c : Commit) : Type 0 where
  pub same : SameUpTo upto old new
  pub below : BeginUpTo upto headers
  pub header : IsHeaderAt revision new at h
  pub is_last : IsLast revision new at
  pub links : LinksTo h headers
  pub commit : IsCommitOf revision new at h c

-- such a file stands for that commit, and those of the headers that the last one links to
abbrev pub AddTo : Type 0
AddTo = (revision generation : ℕ) (old new : List Block) (upto : ℕ) (headers : List Placed) (older : List Commit) (at : ℕ) (h : Header) (c : Commit)
    → AreLinked revision old headers → AreCommitsOf revision old headers older → Adds revision old new upto headers at h c
    → StandsBy new at h (record { commits = c ∷ older; next_commit = h.next_commit; next_store = h.next_store; revision = revision; generation = generation })

-- an image with one header more, which links to the last one of an image that stands, stands for one commit more
abbrev pub Add : Type 0
Add = (base image : Image) (d : Durable) (s : Stands base d) (at : ℕ) (h : Header) (c : Commit) → image 0 ≡ base 0
    → Adds d.revision (base d.revision) (image d.revision) s.at ((s.at, s.header) ∷ s.by.older) at h c
    → Stands image (record d { commits = c ∷ d.commits; next_commit = h.next_commit; next_store = h.next_store })
