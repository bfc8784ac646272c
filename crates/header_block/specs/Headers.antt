-- The headers of a file: which block has one, which is the last, and the list that previous links make of them.
use Rattle.std.specs.Prelude.{◌≡◌, ℕ, ◌<◌, ◌≤◌, List, [], ◌∷◌, Some, None, slice_get, IsTrue}
use Rattle.block_host.specs.Sealed.{IsSealed}
use Rattle.block_host.specs.declared.block.Block.{Block}
use Rattle.forest_model.specs.declared.stored.Header.{Header}
use Rattle.header_block.specs.Layout.{header_bytes, is_well_formed}

-- a sealed, well-formed header in a block of a file
pub record IsHeaderAt (revision : ℕ) (file : List Block) (at : ℕ) (h : Header) : Type 0 where
  pub block : Block
  pub there : slice_get file at ≡ Some block
  pub is_sealed : IsSealed revision at 4 (header_bytes h) block
  pub well_formed : IsTrue (is_well_formed at h)

-- no block of the file above this one is a sealed header
abbrev pub IsLast : ℕ → List Block → ℕ → Type 0
IsLast revision file at = (later : ℕ) (block : Block) (payload : List ℕ) → at < later → slice_get file later ≡ Some block → IsSealed revision later 4 payload block → ⊥

-- a header with its block
abbrev pub Placed : Type 0
Placed = ℕ × Header

-- A header links to the first of those before it, if there is one, which has a lower commit number and no greater next
-- store id.
abbrev pub LinksTo : Header → List Placed → Type 0
LinksTo h [] = h.previous ≡ None
LinksTo h (before ∷ older) = (h.previous ≡ Some before.0) × (before.1.commit < h.commit) × (before.1.next_store ≤ h.next_store)

-- headers of a file, newest first, each of which links to the next one, and the oldest to none
abbrev pub AreLinked : ℕ → List Block → List Placed → Type 0
AreLinked revision file [] = Unit {0}
AreLinked revision file (h ∷ older) = IsHeaderAt revision file h.0 h.1 × LinksTo h.1 older × AreLinked revision file older

-- The headers of a file, newest first: its last one, and those that previous links reach from there.
pub record AreHeadersOf (revision : ℕ) (file : List Block) (last : Placed) (older : List Placed) : Type 0 where
  pub is_last : IsLast revision file last.0
  pub linked : AreLinked revision file (last ∷ older)

-- files that are the same up to a block, it included
abbrev pub SameUpTo : ℕ → List Block → List Block → Type 0
SameUpTo at old new = (i : ℕ) → i ≤ at → slice_get new i ≡ slice_get old i
