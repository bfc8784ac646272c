-- The files of a new store.
use Rattle.std.specs.Prelude.{◌≡◌, ℕ, [], ◌∷◌, codes, None}
use Rattle.block_host.specs.Disk.{Image}
use Rattle.block_host.specs.Sealed.{IsSealed, zero_block}
use Rattle.block_host.specs.declared.block.Block.{Block}
use Rattle.forest_model.specs.Stored.{StoreRow}
use Rattle.forest_model.specs.State.{new_durable}
use Rattle.forest_model.specs.declared.stored.Header.{Header}
use Rattle.header_block.specs.Layout.{header_bytes}
use Rattle.meta_slots.specs.Slots.{slot_bytes}
use Rattle.file_image.specs.Stands.{Stands}

-- the one store of a header, at a sequence number and with so many documents
abbrev pub default_row : ℕ → ℕ → StoreRow
default_row seq documents = record { id = 0; name = codes "default"; seq = seq; documents = documents }

-- the header of commit 0, which has no documents
abbrev pub new_header : Header
new_header = record {
  commit = 0;
  next_commit = 1;
  previous = None;
  key = None;
  seq = None;
  wal_from = 1;
  live = 0;
  next_store = 1;
  stores = default_row 0 0 ∷ [];
}

-- Slot 0 of the meta file names revision 1 in generation 1, slot 1 is zeros, and file 1 has the header of commit 0.
pub record IsNewStore (image : Image) : Type 0 where
  pub slot : Block
  pub header : Block
  pub slot_is : IsSealed 0 0 5 (slot_bytes 1 1) slot
  pub header_is : IsSealed 1 0 4 (header_bytes new_header) header
  pub meta : image 0 ≡ slot ∷ zero_block ∷ []
  pub file : image 1 ≡ header ∷ []

-- such an image stands for commit 0 alone
abbrev pub NewStoreStands : Type 0
NewStoreStands = (image : Image) → IsNewStore image → Stands image new_durable
