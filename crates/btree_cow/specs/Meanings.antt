-- That blocks with a meaning lie below the end of their file: a law of `Pages`, for those that meet it.
use Rattle.std.proofs.Common.{suc-le-suc, zero-lt-suc, refl}
use Rattle.std.proofs.lemmas.Option.{none-some}
use Rattle.std.specs.Prelude.{◌≡◌, ℕ, zero, suc, ◌<◌, List, [], ◌∷◌, length, slice_get, Option, Some, None}
use Rattle.std.specs.Option.{option_map, option_and_then}
use Rattle.block_host.specs.Found.{found_in}
use Rattle.block_host.specs.declared.block.Block.{Block}
use Rattle.btree_cow.specs.Shelf.{Stored, stored_of, stored_in}

abbrev got_below : (content : List Block) (at : ℕ) (block : Block) → slice_get content at ≡ Some block → at < length content
got_below [] at block is = absurd (none-some block is)
got_below (b ∷ content) zero block is = zero-lt-suc (length content)
got_below (b ∷ content) (suc at) block is = suc-le-suc (got_below content at block is)

abbrev has_meaning : (file : ℕ) (content : List Block) (at : ℕ) (stored : Stored) (got : Option Block) → slice_get content at ≡ got
    → option_map stored_of (option_and_then (found_in file at) got) ≡ Some stored → at < length content
has_meaning file content at stored None here is = absurd (none-some stored is)
has_meaning file content at stored (Some block) here is = got_below content at block here

pub meaning_lies_below : (file : ℕ) (content : List Block) (at : ℕ) (stored : Stored) → stored_in file content at ≡ Some stored → at < length content
meaning_lies_below file content at stored is = has_meaning file content at stored (slice_get content at) refl is
