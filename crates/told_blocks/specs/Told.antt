-- A file that is told whole.
use Rattle.std.specs.Prelude.{ℕ, List, length}
use Rattle.block_host.specs.declared.block.Block.{Block}
use Rattle.doc_stream.specs.OpenBlock.{OpenBlock}
use Rattle.btree_cow.specs.Meanings.{meaning_lies_below}
use Rattle.btree_cow.specs.Shelf.{Shelf, LieBelow, stored_in}

-- its number, its blocks, what records are read from, for how many blocks there is room, and how often it has failed
pub record Told : Type 0 where
  pub file : ℕ
  pub content : List Block
  pub seen : List Block
  pub tail : OpenBlock
  pub most : ℕ
  pub faults : ℕ

abbrev pub shelf_of : Told → Shelf
shelf_of t = record {
  lender = (0, 0);
  file = t.file;
  content = t.content;
  blocks = stored_in t.file t.content;
  seen = t.seen;
  tail = t.tail;
  used = length t.content;
  most = t.most;
  max = t.most;
}

pub told_lie_below : (t : Told) → LieBelow (shelf_of t)
told_lie_below t at stored is = meaning_lies_below t.file t.content at stored is
