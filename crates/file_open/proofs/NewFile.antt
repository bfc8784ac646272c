-- The file of a new store: one block, which is the header of commit 0.
use Rattle.std.proofs.Common.{◌≡◌, ℕ, cond, Bool, true, false, List, [], ◌∷◌, ◌++◌, length, Some, refl, sym, ap, subst, ◌∙◌}
use Rattle.std.specs.Prelude.{IsTrue}
use Rattle.std.specs.Option.{option_map_or}
use Rattle.std.proofs.lemmas.Bool.{false≢true}
use Rattle.block_host.specs.Disk.{Image}
use Rattle.block_host.specs.Sealed.{sealed_front, with_checksum, padded, zeros}
use Rattle.block_host.specs.declared.block.Block.{Block}
use Rattle.file_parts.specs.Held.{Held}
use Rattle.file_core.specs.Updates.{IsFile, bytes_of}
use Rattle.file_image.specs.NewStore.{IsNewStore, new_header}
use Rattle.file_open.specs.Opened.{new_held}
use Rattle.forest_model.specs.Blocks.{File, block_at, header_below, last_header, is_header, wal_from}
use Rattle.forest_model.specs.declared.call.Limits.{Limits}
use Rattle.header_block.specs.Layout.{header_bytes, long}

-- what stands in the block before its checksum
front : List ℕ
front = sealed_front 1 0 4 (header_bytes new_header)

checked : (bytes : List ℕ) → (sum : List ℕ) × (with_checksum bytes ≡ bytes ++ sum)
unfolding with_checksum
checked bytes = (_, refl)

kind_in : (sum : List ℕ) → is_header (front ++ sum) ≡ true
unfolding front sealed_front padded zeros long
kind_in sum = refl

from_in : (sum : List ℕ) → wal_from (front ++ sum) ≡ 1
unfolding front sealed_front padded zeros long
from_in sum = refl

one_below : (header : List ℕ) → is_header header ≡ true → last_header (header ∷ []) ≡ Some 0
unfolding header_below
one_below header is = ap (λ (b : Bool). cond b (Some 0) (header_below (header ∷ []) 0)) is

module _ (block : Block) (sealed : block.bytes ≡ with_checksum (sealed_front 1 0 4 (header_bytes new_header))) where
  bytes_are : block.bytes ≡ front ++ (checked front).0
  unfolding front
  bytes_are = sealed ∙ (checked front).1

  last_is : last_header (bytes_of (block ∷ [])) ≡ Some 0
  last_is = one_below block.bytes (ap is_header bytes_are ∙ kind_in (checked front).0)

  file_is : (told : Bool) (limits : Limits) (file : List Block) → (IsTrue told → file ≡ block ∷ []) → IsFile told (new_held limits) file (bytes_of (block ∷ []))
  file_is told limits file same = record {
    shown = λ tells. sym (ap bytes_of (same tells));
    long = refl;
    header = last_is;
    from = ap (λ at. option_map_or (λ n. wal_from (block_at (bytes_of (block ∷ [])) n)) at 0) last_is ∙ (ap wal_from bytes_are ∙ from_in (checked front).0);
  }

-- such a block
made : Block
made = record { bytes = with_checksum (sealed_front 1 0 4 (header_bytes new_header)) }

made_sealed : made.bytes ≡ with_checksum (sealed_front 1 0 4 (header_bytes new_header))
unfolding made
made_sealed = refl

new_file : (told : Bool) (limits : Limits) (file : List Block) (files : Image) → (IsTrue told → IsNewStore files) → (IsTrue told → file ≡ files 1) → (f : File) × IsFile told (new_held limits) file f
new_file true limits file files new same = let n = new refl in (bytes_of (n.header ∷ []), file_is n.header n.header_is.bytes true limits file (λ tells. same tells ∙ n.file))
new_file false limits file files new same = (bytes_of (made ∷ []), file_is made made_sealed false limits file (λ tells. absurd (false≢true tells)))

pub file_by : (told : Bool) (limits : Limits) (file : List Block) (files : Image) (p : Held) → p ≡ new_held limits → (IsTrue told → IsNewStore files) → (IsTrue told → file ≡ files 1) → (f : File) × IsFile told p file f
file_by told limits file files p is new same = subst (λ (h : Held). (f : File) × IsFile told h file f) (sym is) (new_file told limits file files new same)

-- the file has one block
pub one_block : (file : List Block) (files : Image) → IsNewStore files → file ≡ files 1 → length file ≡ 1
one_block file files new same = ap length (same ∙ new.file)
