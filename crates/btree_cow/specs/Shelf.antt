-- What the blocks of a file mean to the trees in them.
use Rattle.std.specs.Prelude.{◌≡◌, ◌⊎◌, ◌+◌, ◌<◌, ◌≤◌, ℕ, List, [], ◌∷◌, ◌++◌, length, slice_get, Option, Some, None, ⊤}
use Rattle.std.specs.Option.{option_map, option_and_then}
use Rattle.block_host.specs.Found.{found_in}
use Rattle.block_host.specs.Sealed.{IsSealed}
use Rattle.block_host.specs.declared.block.Block.{Block}
use Rattle.doc_stream.specs.Causes.{BreaksRecord}
use Rattle.doc_stream.specs.Memory.{HasHeadAt}
use Rattle.doc_stream.specs.OpenBlock.{OpenBlock}
use Rattle.doc_stream.specs.Reading.{RecordAt}
use Rattle.doc_stream.specs.Shown.{Unsealed, open_file}
use Rattle.forest_model.specs.declared.stored.Rec.{Rec}
use Rattle.node_page.specs.Found.{page_of}
use Rattle.node_page.specs.Pages.{IsPage}
use Rattle.node_page.specs.declared.page.Page.{Page}

-- a block's kind, 2 for a node and 3 for a stem, and its page
pub record Stored : Type 0 where
  pub kind : ℕ
  pub page : Page

-- A file as data.
pub record Shelf : Type 0 where
  -- the names of the references that were lent for it, by which their lender knows them again
  pub lender : ℕ × ℕ
  -- its number, for which its blocks are sealed
  pub file : ℕ
  -- its blocks, from which nodes are read
  pub content : List Block
  -- what they mean: the block at each number that is sealed there
  pub blocks : ℕ → Option Stored
  -- the blocks and the open block from which records are read
  pub seen : List Block
  pub tail : OpenBlock
  -- the number of the next block that is added, the first one at which there is no room, and the number told of a full file
  pub used : ℕ
  pub most : ℕ
  pub max : ℕ

-- the shelf of a file that tells nothing of its content
abbrev pub untold_shelf : ℕ → ℕ → ℕ → ℕ → Shelf
untold_shelf file used most max = record {
  lender = (0, 0);
  file = file;
  content = [];
  blocks = λ _. None;
  seen = [];
  tail = record { number = 0; bytes = [] };
  used = used;
  most = most;
  max = max;
}

abbrev pub is_stored : Shelf → ℕ → ℕ → Page → Type 0
is_stored s kind at page = s.blocks at ≡ Some (record { kind = kind; page = page })

-- each block lies below the next one that is added
abbrev pub LieBelow : Shelf → Type 0
LieBelow s = (at : ℕ) (stored : Stored) → s.blocks at ≡ Some stored → at < s.used

-- ---- what blocks mean

-- a sealed block as its kind and its page
abbrev pub stored_of : ℕ × List ℕ → Stored
stored_of found = record { kind = found.0; page = page_of found.1 }

-- the block at a number of a file, if it is sealed for the file and there
abbrev pub stored_in : ℕ → List Block → ℕ → Option Stored
stored_in file content at = option_map stored_of (option_and_then (found_in file at) (slice_get content at))

-- the meaning of the blocks is that of the file's content
abbrev pub GoesByContent : Shelf → Type 0
GoesByContent s = (at : ℕ) → s.blocks at ≡ stored_in s.file s.content at

-- ---- records

-- the record at an address
abbrev pub HasRecord : Shelf → ℕ → Rec → Type 0
HasRecord s address rec = RecordAt s.file s.seen s.tail address rec

-- a block from which records are read is neither open nor sealed
abbrev pub IsUnsealed : Shelf → ℕ → Type 0
IsUnsealed s at = Unsealed (open_file s.file s.tail) s.seen at

-- the block of an address shows a byte there, and a whole head stands from this one on
abbrev pub HasHead : Shelf → ℕ → Type 0
HasHead s address = HasHeadAt (open_file s.file s.tail) s.seen address

-- a block by which there is no record at an address
abbrev pub BreaksAt : Shelf → ℕ → ℕ → Type 0
BreaksAt s address block = BreaksRecord s.file s.seen s.tail address block

-- ---- blocks added

-- blocks one after another from a number on, each sealed as a node or a stem
abbrev pub AreNodes : ℕ → ℕ → List Block → Type 0
AreNodes file at [] = ⊤
AreNodes file at (b ∷ blocks) =
    (kind : ℕ) × (payload : List ℕ) × ((kind ≡ 2) ⊎ (kind ≡ 3)) × IsSealed file at kind payload b × AreNodes file (at + 1) blocks

-- nothing but nodes and stems was added behind the blocks of before
pub record Grows (old new : Shelf) : Type 0 where
  pub more : List Block
  pub behind : new.content ≡ old.content ++ more
  pub nodes : AreNodes old.file (length old.content) more

-- blocks were added behind those of before; the records stand as before
pub record Later (old new : Shelf) : Type 0 where
  pub lender : new.lender ≡ old.lender
  pub file : new.file ≡ old.file
  pub content : Grows old new
  pub blocks : (at : ℕ) (stored : Stored) → old.blocks at ≡ Some stored → new.blocks at ≡ Some stored
  pub seen : new.seen ≡ old.seen
  pub tail : new.tail ≡ old.tail
  pub used : old.used ≤ new.used
  pub most : new.most ≡ old.most
  pub max : new.max ≡ old.max

-- a block is sealed for a file and a number with a page
pub record SealsPage (file at kind : ℕ) (page : Page) (block : Block) : Type 0 where
  pub payload : List ℕ
  pub paged : IsPage payload page
  pub sealed : IsSealed file at kind payload block

-- a block was added, sealed for its place behind the others
pub record Adds (kind : ℕ) (page : Page) (at : ℕ) (old new : Shelf) : Type 0 where
  pub later : Later old new
  pub at_end : at ≡ old.used
  pub one_more : new.used ≡ old.used + 1
  pub there : is_stored new kind at page
  pub place : at ≡ length old.content
  pub block : Block
  pub behind : new.content ≡ old.content ++ block ∷ []
  pub seals : SealsPage old.file at kind page block

-- a block was counted
pub record Counted (at : ℕ) (old new : Shelf) : Type 0 where
  pub lender : new.lender ≡ old.lender
  pub file : new.file ≡ old.file
  pub at_end : at ≡ old.used
  pub one_more : new.used ≡ old.used + 1
  pub most : new.most ≡ old.most
  pub max : new.max ≡ old.max
