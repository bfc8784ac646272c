-- What is written is what a scan finds, step by step.
use Rattle.std.proofs.Common.{◌≡◌, ◌≢◌, ℕ, ◌+◌, ◌-◌, List, [], ◌∷◌, ◌++◌, length, IsTrue, refl, sym, ◌∙◌, ap, subst, subst₂, inl, ⊎_elim, arith, length-append, append_assoc, append-nil}
use Rattle.block_host.specs.Sealed.{IsSealed}
use Rattle.block_host.specs.declared.block.Block.{Block}
use Rattle.forest_model.specs.declared.stored.Rec.{Rec}
use Rattle.doc_stream.specs.OpenBlock.{OpenBlock, PutsBytes, address_of}
use Rattle.forest_model.specs.Records.{record_bytes, is_record}
use Rattle.doc_stream.specs.Runs.{Piece, RecordBlocks, Spreads, StartsAt, AreRecords, RecordsOf, left}
use Rattle.doc_stream.specs.Scanned.{IsScanned, open_piece}
use Rattle.doc_stream.specs.Writing.{Writing, Begins, Puts, Pads, Passes, AreOthers, Steps, Wrote}
use Rattle.doc_stream.proofs.Extended.{piece, go_on, same_left, left_none}
use Rattle.doc_stream.proofs.Filled.{Fills, PutPieces, SpreadsWhole, put_pieces, fills_left, fills_spread, left_some, left_empty}
use Rattle.doc_stream.proofs.Fronts.{got_at}
use Rattle.doc_stream.proofs.Joined.{blocks_stay, blocks_joined, others_passed}
use Rattle.doc_stream.proofs.KeptAt.{record_some}
use Rattle.doc_stream.proofs.WrittenRead.{put_at_end, begins_at_end}

-- blocks were appended
appended : (revision : ℕ) (file more : List Block) (tail : OpenBlock) (start further : ℕ) (others : List Piece) (records : List (ℕ × Rec)) (was : IsScanned revision file tail start records) → RecordBlocks revision (file ++ more) tail.number further others → RecordBlocks revision (file ++ more) start (was.count + further) (was.pieces ++ others)
appended revision file more tail start further others records was behind =
    let at : tail.number ≡ start + was.count = was.ends.number ∙ sym was.counted in
    blocks_joined revision (file ++ more) was.count start further was.pieces others (blocks_stay revision file more was.count start was.pieces was.blocks)
    (subst (λ (n : ℕ). RecordBlocks revision (file ++ more) n further others) at behind)

-- the open block was padded out
pub padded : (revision : ℕ) (file : List Block) (tail : OpenBlock) (start : ℕ) (records : List (ℕ × Rec)) (block : Block) → IsScanned revision file tail start records → IsSealed revision tail.number 1 tail.bytes block → IsScanned revision (file ++ block ∷ []) (record { number = tail.number + 1; bytes = [] }) start records
padded revision file tail start records block was sealed =
    let is_end = was.ends.number in
    let counted = was.counted in
    let longer = length-append file (block ∷ []) in
    let one : RecordBlocks revision (file ++ block ∷ []) tail.number 1 (open_piece tail ∷ []) = (block, 1, tail.bytes, got_at file [] block tail.number is_end, sealed, inl (refl, [], refl, refl)) in
    record {
      ends = record { number = omega arith; short = omega arith };
      pieces = was.pieces ++ open_piece tail ∷ [];
      count = was.count + 1;
      counted = omega arith;
      blocks = appended revision file (block ∷ []) tail start 1 (open_piece tail ∷ []) records was one;
      are = same_left records (was.pieces ++ open_piece tail ∷ []) (was.pieces ++ open_piece tail ∷ [] ++ open_piece (record { number = tail.number + 1; bytes = [] }) ∷ []) (sym (left_none (tail.number + 1) 0 (was.pieces ++ open_piece tail ∷ []))) was.are;
    }

-- blocks of other kinds were appended where nothing was open
pub passed : (revision : ℕ) (file others : List Block) (tail : OpenBlock) (start : ℕ) (records : List (ℕ × Rec)) → IsScanned revision file tail start records → tail.bytes ≡ [] → AreOthers revision tail.number others → IsScanned revision (file ++ others) (record { number = tail.number + length others; bytes = [] }) start records
passed revision file others tail start records was empty are =
    let is_end = was.ends.number in
    let counted = was.counted in
    let longer = length-append file others in
    let behind : OpenBlock = record { number = tail.number + length others; bytes = [] } in
    let was_open : was.pieces ++ open_piece tail ∷ [] ≡ was.pieces ++ piece tail.number 0 [] ∷ [] = ap (λ (l : List ℕ). was.pieces ++ piece tail.number 0 l ∷ []) empty in
    record {
      ends = record { number = omega arith; short = omega arith };
      pieces = was.pieces ++ [];
      count = was.count + length others;
      counted = omega arith;
      blocks = appended revision file others tail start (length others) [] records was (others_passed revision others file tail.number is_end are);
      are = same_left records (was.pieces ++ open_piece tail ∷ []) (was.pieces ++ [] ++ open_piece behind ∷ [])
          (ap left was_open ∙ left_none tail.number 0 was.pieces ∙ ap left (sym (append-nil was.pieces)) ∙ sym (left_none behind.number 0 (was.pieces ++ []))) was.are;
    }

-- the record that was put, behind what the open block had
is_behind : (block offset : ℕ) (r : Rec) (added : List ℕ) (others : List Piece) → IsTrue (is_record r) → added ≢ [] → Fills (record_bytes r) (piece block offset added) others → AreRecords (piece block offset added ∷ others) ((address_of block offset, r) ∷ [])
is_behind block offset r added others is some fills =
    let p = piece block offset added in
    let is_left : p ∷ left others ≡ left (p ∷ others) = sym (left_some p others some) in
    by is_left (fills_spread (record_bytes r) p (left others) (fills_left (record_bytes r) p others fills))
  where
    by : piece block offset added ∷ left others ≡ left (piece block offset added ∷ others) → SpreadsWhole (record_bytes r) (piece block offset added ∷ left others) → AreRecords (piece block offset added ∷ others) ((address_of block offset, r) ∷ [])
    by is_left whole =
        (is, subst (StartsAt (address_of block offset)) is_left refl, (whole.behind, subst (λ (l : List Piece). Spreads (record_bytes r) l whole.behind) is_left whole.spreads, whole.nothing))

-- a record was put
pub put : (revision : ℕ) (r : Rec) (before after : OpenBlock) (file grown : List Block) (start : ℕ) (records : List (ℕ × Rec)) → IsTrue (is_record r) → IsScanned revision file before start records → PutsBytes revision (record_bytes r) before after file grown → IsScanned revision grown after start (records ++ (address_of before.number (length before.bytes), r) ∷ [])
put revision r before after file grown start records is was puts =
    by (put_pieces revision (record_bytes r) before after file grown was.ends.number was.ends.short puts)
  where
    by : PutPieces revision (record_bytes r) before after file grown → IsScanned revision grown after start (records ++ (address_of before.number (length before.bytes), r) ∷ [])
    by pieces =
        let new : List (ℕ × Rec) = (address_of before.number (length before.bytes), r) ∷ [] in
        let counted = was.counted in
        let further = pieces.counted in
        let offset : 0 + length before.bytes ≡ length before.bytes = omega arith in
        let behind : AreRecords (piece before.number (0 + length before.bytes) pieces.added ∷ pieces.others) new =
        subst (λ (n : ℕ). AreRecords (piece before.number n pieces.added ∷ pieces.others) new) (sym offset)
        (is_behind before.number (length before.bytes) r pieces.added pieces.others is (pieces.some (record_some r)) pieces.fills) in
        record {
          ends = put_at_end revision (record_bytes r) before after file grown was.ends puts;
          pieces = was.pieces ++ pieces.full;
          count = was.count + pieces.count;
          counted = omega arith;
          blocks = subst (λ (l : List Block). RecordBlocks revision l start (was.count + pieces.count) (was.pieces ++ pieces.full)) (sym puts.out)
              (appended revision file puts.more before start pieces.count pieces.full records was
              (subst (λ (l : List Block). RecordBlocks revision l before.number pieces.count pieces.full) puts.out pieces.blocks));
          are = subst (λ (l : List Piece). AreRecords l (records ++ new)) (sym (append_assoc was.pieces pieces.full (open_piece after ∷ []) ∙ ap (λ (l : List Piece). was.pieces ++ l) pieces.all))
              (go_on before.number pieces.added pieces.others new records was.pieces 0 before.bytes was.are behind);
        }

-- what the blocks up to the end hold, with nothing open behind them
pub opened : (revision : ℕ) (file : List Block) (start count : ℕ) (records : List (ℕ × Rec)) → start + count ≡ length file → RecordsOf revision file start count records → IsScanned revision file (record { number = length file; bytes = [] }) start records
opened revision file start count records counted of =
    let behind : OpenBlock = record { number = length file; bytes = [] } in
    record {
      ends = record { number = refl; short = omega arith };
      pieces = of.pieces;
      count = count;
      counted = counted;
      blocks = of.blocks;
      are = same_left records of.pieces (of.pieces ++ open_piece behind ∷ []) (sym (left_none (length file) 0 of.pieces)) of.are;
    }

-- of a writing
abbrev IsScannedNow : ℕ → Writing → Type 0
IsScannedNow revision w = IsScanned revision w.file w.tail w.start w.records

begun : (revision : ℕ) (w : Writing) → Begins w → IsScannedNow revision w
begun revision w begins =
    let first = begins.first in
    record {
      ends = begins_at_end w begins;
      pieces = [];
      count = 0;
      counted = omega arith;
      blocks = refl;
      are = subst (λ (l : List (ℕ × Rec)). AreRecords (open_piece w.tail ∷ []) l) (sym begins.none) (left_empty (open_piece w.tail) [] begins.empty);
    }

step : (revision : ℕ) (old new : Writing) → IsScannedNow revision old → Steps revision old new → IsScannedNow revision new
step revision old new was steps = ⊎_elim with_put (λ later. ⊎_elim with_pad (λ last. ⊎_elim with_pass (λ restarts. begun revision new restarts.begins) last) later) steps
  where
    with_put : (r : Rec) × Puts revision r old new → IsScannedNow revision new
    with_put puts =
        subst₂ (λ (n : ℕ) (l : List (ℕ × Rec)). IsScanned revision new.file new.tail n l) (sym puts.1.start) (sym puts.1.records)
        (put revision puts.0 old.tail new.tail old.file new.file old.start old.records puts.1.is_record was puts.1.bytes)

    with_pad : Pads revision old new → IsScannedNow revision new
    with_pad pads = ⊎_elim
        (λ nothing. subst (IsScannedNow revision) (sym nothing.1) was)
        (λ some. subst (IsScannedNow revision) (sym some.3) (padded revision old.file old.tail old.start old.records some.0 was some.2))
        pads

    with_pass : Passes revision old new → IsScannedNow revision new
    with_pass passes = subst (IsScannedNow revision) (sym passes.after) (passed revision old.file passes.others old.tail old.start old.records was passes.empty passes.are)

wrote : (revision : ℕ) (first last : Writing) (steps : List Writing) → IsScannedNow revision first → Wrote revision first steps last → IsScannedNow revision last
wrote revision first last [] was all = subst (IsScannedNow revision) (sym all) was
wrote revision first last (next ∷ later) was all = wrote revision next last later (step revision first next was all.0) all.1

-- where nothing is open, the blocks alone are the records
pub closed : (revision : ℕ) (file : List Block) (tail : OpenBlock) (start : ℕ) (records : List (ℕ × Rec)) → tail.bytes ≡ [] → IsScanned revision file tail start records → RecordsOf revision file start (length file - start) records
closed revision file tail start records empty was =
    let counted = was.counted in
    let count : was.count ≡ length file - start = omega arith in
    record {
      pieces = was.pieces;
      blocks = subst (λ (n : ℕ). RecordBlocks revision file start n was.pieces) count was.blocks;
      are = same_left records (was.pieces ++ open_piece tail ∷ []) was.pieces (ap (λ (l : List ℕ). left (was.pieces ++ piece tail.number 0 l ∷ [])) empty ∙ left_none tail.number 0 was.pieces) was.are;
    }

pub is_scanned : (revision : ℕ) (first last : Writing) (steps : List Writing) → Begins first → Wrote revision first steps last → last.tail.bytes ≡ [] → RecordsOf revision last.file last.start (length last.file - last.start) last.records
is_scanned revision first last steps begins all empty =
    closed revision last.file last.tail last.start last.records empty (wrote revision first last steps (begun revision first begins) all)
