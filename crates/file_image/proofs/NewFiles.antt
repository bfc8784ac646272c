-- The files of a new store: the slot that counts, and the one header.
use Rattle.std.proofs.Common.{ℕ, zero, suc, List, [], ◌∷◌, Some, None, refl, sym, ap, subst, arith}
use Rattle.std.specs.Prelude.{slice_get}
use Rattle.std.proofs.lemmas.Option.{none-some}
use Rattle.block_host.specs.Calls.{block_at}
use Rattle.block_host.specs.Disk.{Image}
use Rattle.block_host.specs.Sealed.{zero_block}
use Rattle.block_host.specs.declared.block.Block.{Block}
use Rattle.block_host.proofs.Back.{zero_block-torn}
use Rattle.forest_model.specs.State.{new_durable, first_commit}
use Rattle.meta_slots.specs.Slots.{IsCurrent, IsSlot, Says, slot_bytes}
use Rattle.header_block.specs.Headers.{IsHeaderAt, IsLast}
use Rattle.file_image.specs.Commits.{IsCommitOf}
use Rattle.file_image.specs.NewStore.{IsNewStore, new_header}
use Rattle.file_image.specs.Stands.{Names, Stands}
use Rattle.file_image.proofs.FirstCommit.{none_counted, none_live, is_commit}

-- zeros are no slot
zeros_say : (n : ℕ) → Says n zero_block None
zeros_say n slot is = zero_block-torn 0 n 5 (slot_bytes slot.0 slot.1) is.is_sealed

-- a file of one block has none above it
alone : (revision : ℕ) (block : Block) → IsLast revision (block ∷ []) 0
alone revision block zero other payload above there sealed = absurd (omega (arith, above))
alone revision block (suc later) other payload above there sealed = absurd (none-some other there)

module _ (image : Image) (new : IsNewStore image) where
  slot_one : IsSlot 0 (1, 1) new.slot
  slot_one = record { generation = omega arith; revision = omega arith; is_sealed = new.slot_is }

  no_second : Says 1 (block_at (image 0) 1) None
  no_second = subst (λ (block : Block). Says 1 block None) (sym (ap (λ file. block_at file 1) new.meta)) (zeros_say 1)

  counts : IsCurrent (block_at (image 0) 0) (block_at (image 0) 1) (Some (1, 1))
  counts = record {
    first = Some (1, 1);
    second = None;
    says_first = subst (IsSlot 0 (1, 1)) (sym (ap (λ file. block_at file 0) new.meta)) slot_one;
    says_second = no_second;
    is = refl;
  }

  first_header : IsHeaderAt 1 (image 1) 0 new_header
  first_header = record {
    block = new.header;
    there = ap (λ file. slice_get file 0) new.file;
    is_sealed = new.header_is;
    well_formed = refl;
  }

  -- no block lies between its `wal_from` and the header
  commit_zero : IsCommitOf 1 (image 1) 0 new_header first_commit
  commit_zero = record {
    number = refl;
    stores = refl;
    no_key_root = refl;
    no_seq_root = refl;
    records = [];
    read = record { pieces = []; blocks = refl; are = refl };
    made = record { known = tt; rise = tt; above = λ k d there. tt; folded = refl; last = (tt, tt) };
    rules = is_commit;
    count = (none_counted 0, tt);
    live = none_live;
  }

  names : Names (image 0) 1 1
  names = record { slot = counts; not_meta = omega arith; apart = λ a b first second same. no_second b second }

  pub stands_new : Stands image new_durable
  stands_new = record {
    names = names;
    at = 0;
    header = new_header;
    by = record {
      older = [];
      headers = record { is_last = subst (λ (file : List Block). IsLast 1 file 0) (sym new.file) (alone 1 new.header); linked = (first_header, refl, tt) };
      commits = (commit_zero, refl);
      next_commit = refl;
      next_store = refl;
    };
  }
