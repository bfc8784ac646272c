-- The file that a commit grows.
use Rattle.std.proofs.Common.{◌≡◌, ◌≢◌, ℕ, suc, ◌+◌, Bool, true, false, List, [], ◌∷◌, ◌++◌, length, Option, Some, None, refl, sym, ap, ◌∙◌, arith, inl, append-nil, length-append}
use Rattle.std.specs.Prelude.{IsTrue, ◌&&◌, ◌==◌, if◌then◌else◌}
use Rattle.std.specs.List.{list_all}
use Rattle.std.specs.Option.{option_map_or}
use Rattle.std.proofs.lemmas.Bool.{eq-eqb}
use Rattle.std.proofs.lemmas.Bool.Decides.{nat_tests}
use Rattle.std.proofs.lemmas.List.Folds.{list_all-append}
use Rattle.block_host.proofs.Back.{kind_back, in_use_back}
use Rattle.block_host.specs.declared.block.Block.{Block}
use Rattle.doc_stream.specs.OpenBlock.{OpenBlock}
use Rattle.forest_model.specs.Blocks.{File, block_at, last_header, is_block, is_records, is_records_of, is_header, in_use, wal_from}
use Rattle.forest_model.specs.Run.{AddsCommit, link_to, unflushed_from}
use Rattle.forest_model.specs.declared.state.State.{State}
use Rattle.forest_model.specs.declared.stored.Header.{Header}
use Rattle.file_core.specs.Updates.{bytes_of, IsOpenBlock, listed}
use Rattle.file_commit.specs.Committing.{TellsHeader}
use Rattle.file_commit.proofs.Headers.{last-new, block-new}

pub length-bytes_of : (blocks : List Block) → length (bytes_of blocks) ≡ length blocks
length-bytes_of [] = refl
length-bytes_of (b ∷ blocks) = ap suc (length-bytes_of blocks)

pub bytes-append : (a b : List Block) → bytes_of (a ++ b) ≡ bytes_of a ++ bytes_of b
bytes-append [] b = refl
bytes-append (x ∷ a) b = ap (λ xs. x.bytes ∷ xs) (bytes-append a b)

-- ---- the open block

join : (a b : Bool) → IsTrue a → IsTrue b → IsTrue (a && b)
join true b t u = u
join false b t u = t

not_none : (xs : List ℕ) → xs ≢ [] → (length xs == 0) ≡ false
not_none [] some = absurd (some refl)
not_none (x ∷ xs) some = grind (arith, nat_tests)

-- it has so many bytes of records, and is whole
pub open_records : (revision loose : ℕ) (tail : OpenBlock) (block : Option Block) → length tail.bytes ≡ loose → IsOpenBlock revision tail block → IsTrue (list_all (is_records_of loose) (bytes_of (listed block)))
open_records revision loose tail None is is_open = refl
open_records revision loose tail (Some b) is is_open =
    join (is_records_of loose b.bytes) true
    (join (is_records b.bytes) (in_use b.bytes == loose) (ap (λ k. k == 1) (kind_back revision tail.number 1 tail.bytes b is_open.1))
    (eq-eqb (in_use b.bytes) loose (in_use_back revision tail.number 1 tail.bytes b is_open.1 ∙ is)))
    refl

pub open_whole : (revision : ℕ) (tail : OpenBlock) (block : Option Block) → IsOpenBlock revision tail block → IsTrue (list_all is_block (bytes_of (listed block)))
open_whole revision tail None is_open = refl
open_whole revision tail (Some b) is_open = join (is_block b.bytes) true is_open.1.whole refl

pub open_count : (revision : ℕ) (tail : OpenBlock) (block : Option Block) → IsOpenBlock revision tail block → length (listed block) ≡ (if length tail.bytes == 0 then 0 else 1)
open_count revision tail None is_open = sym (ap (λ (xs : List ℕ). if length xs == 0 then 0 else 1) is_open)
open_count revision tail (Some b) is_open = sym (ap (λ (t : Bool). if t then 0 else 1) (not_none tail.bytes is_open.0))

-- ---- the header behind it

pub record Grown (f records : File) (header : List ℕ) (grown : File) : Type 0 where
  pub long : length grown ≡ length f + length records + 1
  pub last : last_header grown ≡ Some (length f + length records)
  pub from : unflushed_from grown ≡ wal_from header

pub grown_is : (f records : File) (header : List ℕ) → IsTrue (is_header header) → Grown f records header (f ++ records ++ header ∷ [])
grown_is f records header kind =
    let end_at : length (f ++ records) ≡ length f + length records = length-append f records in
    let last : last_header (f ++ records ++ header ∷ []) ≡ Some (length (f ++ records)) = last-new (f ++ records) header kind in
    record {
      long = omega (arith, length-append (f ++ records) (header ∷ []), end_at);
      last = last ∙ ap Some end_at;
      from = ap (λ (o : Option ℕ). option_map_or (λ at. wal_from (block_at (f ++ records ++ header ∷ []) at)) o 0) last ∙ ap wal_from (block-new (f ++ records) header);
    }

-- ---- what a commit adds

-- the open block that there may be, as the bytes of blocks
pub record OpenAdded (s : State) (records : File) : Type 0 where
  pub count : length records ≡ (if s.loose == 0 then 0 else 1)
  pub whole : IsTrue (list_all is_block records)
  pub kind : IsTrue (list_all (is_records_of s.loose) records)

pub adds : (s : State) (f records : File) (h : Header) (header : List ℕ) → OpenAdded s records → TellsHeader h header
    → h.commit ≡ s.next_commit → link_to h.previous ≡ link_to (last_header f) → h.wal_from ≡ unflushed_from f → AddsCommit s f (f ++ records ++ header ∷ [])
adds s f records h header added tells number link from = record {
  records = records;
  pages = [];
  header = header;
  all = ap (λ xs. xs ++ header ∷ []) (sym (append-nil (f ++ records)));
  whole = ap (λ xs. list_all is_block (xs ++ header ∷ [])) (append-nil records) ∙ list_all-append is_block records (header ∷ [])
      ∙ join (list_all is_block records) (is_block header && true) added.whole (join (is_block header) true tells.whole refl);
  open_block = added.count;
  kind = added.kind;
  flushed = λ some. absurd (omega (arith, some));
  page_kind = refl;
  header_kind = tells.kind;
  number = tells.number ∙ number;
  link = tells.link ∙ link;
  from = inl (tells.from ∙ from);
}
