-- A file that is read through a view, and one to which nodes are added through a host.
use Rattle.std.proofs.Common.{suc-le-suc, zero-le, lt_of_lt_of_le}
use Rattle.std.specs.Prelude.{◌≡◌, ◌≤◌, ℕ, zero, suc, Bool, true, false, List, [], ◌∷◌, ◌++◌, length, take, MatchOption, Option, Some}
use Rattle.block_host.specs.declared.block.Block.{Block}
use Rattle.doc_stream.specs.OpenBlock.{OpenBlock}
use Rattle.node_page.specs.declared.page.Page.{Page}
use Rattle.btree_cow.specs.Meanings.{meaning_lies_below}
use Rattle.btree_cow.specs.Shelf.{Shelf, LieBelow, AreNodes, stored_in}

-- the blocks that are told: none where nothing is told
abbrev pub told : Bool → List Block → List Block
told true blocks = blocks
told false blocks = []

-- A file of which these blocks are read, its records too, with an open block behind them. It has no room.
abbrev pub view_shelf : ℕ × ℕ → ℕ → List Block → OpenBlock → Shelf
view_shelf lender file content tail = record {
  lender = lender;
  file = file;
  content = content;
  blocks = stored_in file content;
  seen = content;
  tail = tail;
  used = length content;
  most = length content;
  max = length content;
}

pub view_lies_below : (lender : ℕ × ℕ) (file : ℕ) (content : List Block) (tail : OpenBlock) → LieBelow (view_shelf lender file content tail)
view_lies_below lender file content tail at stored is = meaning_lies_below file content at stored is

-- a block of a file is no page of a kind
abbrev pub NoPage : ℕ → List Block → ℕ → ℕ → Type 0
NoPage file content at kind = (page : Page) → stored_in file content at ≡ Some (record { kind = kind; page = page }) → ⊥

-- the page of a block of a file, where it is one of a kind
abbrev pub IsPageIn : ℕ → List Block → ℕ → ℕ → Option Page → Type 0
IsPageIn file content at kind found =
    MatchOption found (NoPage file content at kind) (λ page. stored_in file content at ≡ Some (record { kind = kind; page = page }))

-- ---- files to which nodes are added

-- A file of which these blocks are read and to which others are added, while its records are those of the blocks that
-- were seen before, with an open block behind them.
abbrev pub host_shelf : ℕ × ℕ → ℕ → List Block → List Block → OpenBlock → ℕ → ℕ → ℕ → Shelf
host_shelf lender file content seen tail used most max = record {
  lender = lender;
  file = file;
  content = content;
  blocks = stored_in file content;
  seen = seen;
  tail = tail;
  used = used;
  most = most;
  max = max;
}

abbrev pub short_front : (tells : Bool) (n : ℕ) (blocks : List Block) → length (told tells (take n blocks)) ≤ n
short_front false n blocks = zero-le
short_front true zero blocks = zero-le
short_front true (suc n) [] = zero-le
short_front true (suc n) (b ∷ blocks) = suc-le-suc (short_front true n blocks)

pub host_lies_below : (lender : ℕ × ℕ) (file : ℕ) (tells : Bool) (blocks seen : List Block) (tail : OpenBlock) (used most max : ℕ)
    → LieBelow (host_shelf lender file (told tells (take used blocks)) seen tail used most max)
host_lies_below lender file tells blocks seen tail used most max at stored is =
    lt_of_lt_of_le (meaning_lies_below file (told tells (take used blocks)) at stored is) (short_front tells used blocks)

-- nodes and stems stand behind the first so many blocks that a file had, up to a number
pub record IsGrown (file blocks upto : ℕ) (before after : List Block) : Type 0 where
  pub more : List Block
  pub behind : take upto after ≡ take blocks before ++ more
  pub nodes : AreNodes file blocks more
  pub within : upto ≤ length after
