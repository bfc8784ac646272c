-- What is written stands at its addresses, step by step.
use Rattle.std.proofs.Common.{◌≡◌, ℕ, ◌+◌, ◌<◌, ◌≤◌, List, [], ◌∷◌, ◌++◌, length, sym, ◌∙◌, ap, subst, ⊎_elim, arith, length-append}
use Rattle.std.specs.List.{AllByRecursion}
use Rattle.block_host.specs.declared.block.Block.{Block}
use Rattle.forest_model.specs.declared.stored.Rec.{Rec}
use Rattle.doc_stream.specs.OpenBlock.{OpenBlock, PutsBytes, address_of}
use Rattle.doc_stream.specs.Reading.{RecordAt}
use Rattle.doc_stream.specs.Scanned.{IsAtEnd}
use Rattle.doc_stream.specs.Writing.{Writing, Begins, Puts, Pads, Passes, Steps, Wrote}
use Rattle.doc_stream.proofs.Filled.{put_keeps, put_stands}
use Rattle.doc_stream.proofs.Fronts.{all_weaker, all_added}
use Rattle.doc_stream.proofs.KeptAt.{Keeps, record_kept, pad_keeps, blocks_keep}
use Rattle.doc_stream.proofs.Puts.{length-put}

abbrev pub AllStand : ℕ → List Block → OpenBlock → List (ℕ × Rec) → Type 0
AllStand revision file tail records = AllByRecursion (λ (x : ℕ × Rec). RecordAt revision file tail x.0 x.1) records

all_kept : (revision : ℕ) (file grown : List Block) (before after : OpenBlock) (records : List (ℕ × Rec)) → Keeps revision file grown before after → AllStand revision file before records → AllStand revision grown after records
all_kept revision file grown before after records keeps stand =
    all_weaker (λ (x : ℕ × Rec). RecordAt revision file before x.0 x.1) (λ (x : ℕ × Rec). RecordAt revision grown after x.0 x.1) (λ x h. record_kept revision file grown before after keeps x.0 x.1 h) records stand

pub put_at_end : (revision : ℕ) (bytes : List ℕ) (before after : OpenBlock) (file grown : List Block) → IsAtEnd file before → PutsBytes revision bytes before after file grown → IsAtEnd grown after
put_at_end revision bytes before after file grown ends put =
    let moved = length-put revision bytes before after file grown put in
    let out = ap length put.out ∙ length-append file put.more in
    let number = put.number in
    let count = put.count in
    let is_end = ends.number in
    record { number = omega arith; short = omega arith }

pub begins_at_end : (w : Writing) → Begins w → IsAtEnd w.file w.tail
begins_at_end w begins = record { number = begins.at_end; short = omega (arith, ap length begins.empty) }

-- of a writing
pub record IsReadable (revision : ℕ) (w : Writing) : Type 0 where
  pub ends : IsAtEnd w.file w.tail
  pub stand : AllStand revision w.file w.tail w.records

begun : (revision : ℕ) (w : Writing) → Begins w → IsReadable revision w
begun revision w begins = record {
  ends = begins_at_end w begins;
  stand = subst (λ (l : List (ℕ × Rec)). AllStand revision w.file w.tail l) (sym begins.none) tt;
}

put : (revision : ℕ) (r : Rec) (old new : Writing) → IsReadable revision old → Puts revision r old new → IsReadable revision new
put revision r old new was puts =
    let number = was.ends.number in
    let short = was.ends.short in
    record {
      ends = put_at_end revision _ old.tail new.tail old.file new.file was.ends puts.bytes;
      stand = subst (λ (l : List (ℕ × Rec)). AllStand revision new.file new.tail l) (sym puts.records)
          (all_added (λ (x : ℕ × Rec). RecordAt revision new.file new.tail x.0 x.1) old.records (address_of old.tail.number (length old.tail.bytes), r)
          (all_kept revision old.file new.file old.tail new.tail old.records (put_keeps revision _ old.tail new.tail old.file new.file number short puts.bytes) was.stand)
          (put_stands revision r old.tail new.tail old.file new.file number short puts.is_record puts.bytes));
    }

padded : (revision : ℕ) (old new : Writing) → IsReadable revision old → Pads revision old new → IsReadable revision new
padded revision old new was pads = ⊎_elim
    (λ nothing. subst (IsReadable revision) (sym nothing.1) was)
    (λ some. subst (IsReadable revision) (sym some.3) (record {
      ends = record { number = let number = was.ends.number in omega (arith, length-append old.file (some.0 ∷ [])); short = omega arith };
      stand = all_kept revision old.file (old.file ++ some.0 ∷ []) old.tail (record { number = old.tail.number + 1; bytes = [] }) old.records (pad_keeps revision old.tail old.file some.0 was.ends.number some.2) was.stand;
    }))
    pads

passed : (revision : ℕ) (old new : Writing) → IsReadable revision old → Passes revision old new → IsReadable revision new
passed revision old new was passes =
    let after : OpenBlock = record { number = old.tail.number + length passes.others; bytes = [] } in
    let behind : old.tail.number ≤ old.tail.number + length passes.others = omega arith in
    subst (IsReadable revision) (sym passes.after) (record {
      ends = record { number = let number = was.ends.number in omega (arith, length-append old.file passes.others); short = omega arith };
      stand = all_kept revision old.file (old.file ++ passes.others) old.tail after old.records (blocks_keep revision old.tail after old.file passes.others was.ends.number passes.empty behind) was.stand;
    })

step : (revision : ℕ) (old new : Writing) → IsReadable revision old → Steps revision old new → IsReadable revision new
step revision old new was steps = ⊎_elim (λ puts. put revision puts.0 old new was puts.1) (λ later. ⊎_elim (padded revision old new was) (λ last. ⊎_elim (passed revision old new was) (λ restarts. begun revision new restarts.begins) last) later) steps

wrote : (revision : ℕ) (first last : Writing) (steps : List Writing) → IsReadable revision first → Wrote revision first steps last → IsReadable revision last
wrote revision first last [] was wrote_all = subst (IsReadable revision) (sym wrote_all) was
wrote revision first last (next ∷ later) was wrote_all = wrote revision next last later (step revision first next was wrote_all.0) wrote_all.1

pub is_read : (revision : ℕ) (first last : Writing) (steps : List Writing) → Begins first → Wrote revision first steps last → IsReadable revision last
is_read revision first last steps begins all = wrote revision first last steps (begun revision first begins) all
