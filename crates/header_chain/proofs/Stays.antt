-- Which header is the last one of a file that is extended or cut.
use Rattle.std.proofs.Common.{◌≡◌, ℕ, zero, suc, ◌+◌, ◌<◌, ◌≤◌, List, [], ◌∷◌, ◌++◌, length, take, slice_get, Some, IsTrue, refl, sym, ◌∙◌, arith, length-append}
use Rattle.std.proofs.lemmas.Option.{none-some, slice_get_within}
use Rattle.block_host.specs.Sealed.{IsSealed}
use Rattle.block_host.specs.declared.block.Block.{Block}
use Rattle.forest_model.specs.declared.stored.Header.{Header}
use Rattle.header_block.specs.Headers.{IsHeaderAt, IsLast, Placed, SameUpTo}
use Rattle.header_block.specs.Layout.{header_bytes, is_well_formed}
use Rattle.header_chain.specs.Chain.{IsLastHeader}

module _ {X : Type 0} where
  got_behind : (xs : List X) (x : X) → slice_get (xs ++ x ∷ []) (length xs) ≡ Some x
  got_behind [] x = refl
  got_behind (y ∷ xs) x = got_behind xs x

  got_taken : (n i : ℕ) (xs : List X) (x : X) → i < n → slice_get xs i ≡ Some x → slice_get (take n xs) i ≡ Some x
  got_taken n i [] x lt there = absurd (none-some x there)
  got_taken zero i (y ∷ xs) x lt there = absurd (omega arith)
  got_taken (suc n) zero (y ∷ xs) x lt there = there
  got_taken (suc n) (suc i) (y ∷ xs) x lt there = got_taken n i xs x (omega arith) there

  got_before : (n i : ℕ) (xs : List X) (x : X) → slice_get (take n xs) i ≡ Some x → slice_get xs i ≡ Some x
  got_before zero i [] x there = there
  got_before (suc n) i [] x there = there
  got_before zero i (y ∷ xs) x there = absurd (none-some x there)
  got_before (suc n) zero (y ∷ xs) x there = there
  got_before (suc n) (suc i) (y ∷ xs) x there = got_before n i xs x there

pub same : (revision : ℕ) (old new : List Block) (last : Placed) → IsLastHeader revision old last → SameUpTo last.0 old new → IsLast revision new last.0 → IsLastHeader revision new last
same revision old new last is same_up is_last = record {
  header = record { block = is.header.block; there = same_up last.0 (omega arith) ∙ is.header.there; is_sealed = is.header.is_sealed; well_formed = is.header.well_formed };
  is_last = is_last;
}

pub added : (revision : ℕ) (file : List Block) (block : Block) (h : Header) → IsSealed revision (length file) 4 (header_bytes h) block → IsTrue (is_well_formed (length file) h) → IsLastHeader revision (file ++ block ∷ []) (length file, h)
added revision file block h sealed formed = record {
  header = record { block = block; there = got_behind file block; is_sealed = sealed; well_formed = formed };
  is_last = λ later other payload lt there is_sealed.
      let within = slice_get_within (file ++ block ∷ []) later other there in
      let longer = length-append file (block ∷ []) in
      absurd (omega arith);
}

pub cut : (revision : ℕ) (file : List Block) (last : Placed) (blocks : ℕ) → IsLastHeader revision file last → last.0 < blocks → IsLastHeader revision (take blocks file) last
cut revision file last blocks is lt = record {
  header = record { block = is.header.block; there = got_taken blocks last.0 file is.header.block lt is.header.there; is_sealed = is.header.is_sealed; well_formed = is.header.well_formed };
  is_last = λ later other payload above there is_sealed. is.is_last later other payload above (got_before blocks later file other there) is_sealed;
}
