-- What a crash may leave of a file whose changes no sync has made sure of.
use Rattle.std.specs.Prelude.{◌≡◌, ◌⊎◌, ◌-◌, ℕ, List, [], ◌∷◌, ◌++◌, length, take, drop, replicate, slice_set, Bool, nat_lt, ◌&&◌}
use Rattle.block_host.specs.declared.block.Block.{Block}
use Rattle.block_host.specs.Sealed.{zero_block}
use Rattle.block_host.specs.Calls.{block_at, with_slot, Written, Put, Cut, Replaced}
use Rattle.host_memory.specs.declared.pick.Pick.{Pick}
use Rattle.host_memory.specs.declared.pick.Pick.TheVariants.{Before, Written as Whole, Torn}
use Rattle.host_memory.specs.declared.change.Change.{Change}
use Rattle.host_memory.specs.declared.change.Change.TheVariants.{Append, Slot, Shorten, Adopt}

-- a change, and the blocks before it
abbrev pub Noted : Type 0
Noted = List Block × Change

-- what a change after which these are the blocks may do to an image of the file
abbrev pub Does : ℕ → Change → List Block → List Block → List Block → Type 0
Does file (Append at) blocks before after = Written file at (drop at blocks) before after
Does file (Slot slot) blocks before after = Put slot (block_at blocks slot) before after
Does file (Shorten n) blocks before after = Cut n before after
Does file Adopt blocks before after = Replaced blocks before after

-- what a crash may leave of a file that has these blocks now, after these changes, the newest first
abbrev pub Leaves : ℕ → List Block → List Noted → List Block → Type 0
Leaves file blocks [] image = image ≡ blocks
Leaves file blocks (noted ∷ steps) image = (image ≡ blocks) ⊎ ((before : List Block) × Leaves file noted.0 steps before × Does file noted.1 blocks before image)

-- the blocks before all of these changes
abbrev pub oldest : List Block → List Noted → List Block
oldest blocks [] = blocks
oldest blocks (noted ∷ steps) = oldest noted.0 steps

-- an image after a change whose blocks are torn
abbrev pub tear : Change → List Block → List Block → List Block
tear (Append at) blocks image = image ++ replicate (length blocks - length image) zero_block
tear (Slot slot) blocks image = with_slot slot zero_block image
tear (Shorten n) blocks image = take n image
tear Adopt blocks image = blocks

-- the image in which all that these changes wrote is torn
abbrev pub torn_of : List Block → List Noted → List Block
torn_of blocks [] = blocks
torn_of blocks (noted ∷ steps) = tear noted.1 blocks (torn_of noted.0 steps)

-- what is known of a file
pub record FileState : Type 0 where
  pub blocks : List Block
  pub steps : List Noted

-- what a file keeps beside its blocks is what its changes say
pub record Pinned (blocks : List Block) (steps : List Noted) (synced torn : List Block) (zero : Block) : Type 0 where
  pub synced_is : synced ≡ oldest blocks steps
  pub torn_is : torn ≡ torn_of blocks steps
  pub zero_is : zero ≡ zero_block

-- which image a crash leaves
abbrev pub picked : Pick → FileState → List Block
picked Before file = oldest file.blocks file.steps
picked Whole file = file.blocks
picked Torn file = torn_of file.blocks file.steps

-- a file that nobody has made
abbrev pub no_file : FileState
no_file = record { blocks = []; steps = [] }

-- a file above this number that has blocks
abbrev pub qualifies : ℕ → ℕ × FileState → Bool
qualifies after entry = nat_lt after entry.0 && nat_lt 0 (length entry.1.blocks)

-- the file after each change, which is noted: blocks at its end, a slot of the meta file, its first blocks, another file in its place
abbrev pub appended : List Block → FileState → FileState
appended blocks file = record { blocks = file.blocks ++ blocks; steps = (file.blocks, Append (length file.blocks)) ∷ file.steps }

abbrev pub slot_written : ℕ → Block → FileState → FileState
slot_written slot block file = record { blocks = with_slot slot block file.blocks; steps = (file.blocks, Slot slot) ∷ file.steps }

abbrev pub cut_to : ℕ → FileState → FileState
cut_to n file = record { blocks = take n file.blocks; steps = (file.blocks, Shorten n) ∷ file.steps }

abbrev pub emptied : FileState → FileState
emptied file = record { blocks = []; steps = (file.blocks, Shorten 0) ∷ file.steps }

abbrev pub adopted : List Block → FileState → FileState
adopted blocks file = record { blocks = blocks; steps = (file.blocks, Adopt) ∷ file.steps }

-- the file after a sync, and with a block zeroed: nothing is pending
abbrev pub made_sure : FileState → FileState
made_sure file = record { blocks = file.blocks; steps = [] }

abbrev pub zeroed_at : ℕ → FileState → FileState
zeroed_at at file = record { blocks = slice_set file.blocks at zero_block; steps = [] }
