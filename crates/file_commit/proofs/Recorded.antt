-- What the records of the file make once a header stands behind them.
use Rattle.std.proofs.Common.{◌≡◌, ◌≢◌, ℕ, ◌+◌, List, [], ◌∷◌, ◌++◌, length, Option, Some, None, refl, sym, subst, arith, append-nil}
use Rattle.block_host.specs.Sealed.{IsSealed}
use Rattle.block_host.specs.declared.block.Block.{Block}
use Rattle.doc_stream.specs.OpenBlock.{OpenBlock}
use Rattle.doc_stream.specs.Scanned.{IsScanned}
use Rattle.doc_stream.specs.Writing.{AreOthers}
use Rattle.forest_model.specs.declared.stored.Rec.{Rec}
use Rattle.file_core.specs.Updates.{listed, IsOpenBlock}

-- what the crate of records promises
abbrev pub PadScans : Type 0
PadScans = (revision : ℕ) (file : List Block) (tail : OpenBlock) (start : ℕ) (records : List (ℕ × Rec)) (block : Block) → IsScanned revision file tail start records → IsSealed revision tail.number 1 tail.bytes block
    → IsScanned revision (file ++ block ∷ []) (record { number = tail.number + 1; bytes = [] }) start records

abbrev pub PassScans : Type 0
PassScans = (revision : ℕ) (file others : List Block) (tail : OpenBlock) (start : ℕ) (records : List (ℕ × Rec)) → IsScanned revision file tail start records → tail.bytes ≡ [] → AreOthers revision tail.number others
    → IsScanned revision (file ++ others) (record { number = tail.number + length others; bytes = [] }) start records

not_records : ◌≢◌ {A = ℕ} 4 1
not_records e = absurd (omega (arith, e))

-- a header is passed over where nothing is open
passed : PassScans → (revision : ℕ) (file : List Block) (tail : OpenBlock) (start : ℕ) (records : List (ℕ × Rec)) (header : Block) (payload : List ℕ) (at : ℕ) → tail.bytes ≡ [] → at ≡ tail.number
    → IsSealed revision at 4 payload header → IsScanned revision file tail start records → IsScanned revision (file ++ header ∷ []) (record { number = at + 1; bytes = [] }) start records
passed passes revision file tail start records header payload at empty is sealed was =
    subst (λ (n : ℕ). IsScanned revision (file ++ header ∷ []) (record { number = n + 1; bytes = [] }) start records) (sym is)
    (passes revision file (header ∷ []) tail start records was empty ((4, payload, not_records, subst (λ (n : ℕ). IsSealed revision n 4 payload header) is sealed), tt))

-- the records stay where the open block goes out and a header behind it
pub commit_scanned : PadScans → PassScans → (revision : ℕ) (file : List Block) (tail : OpenBlock) (start : ℕ) (records : List (ℕ × Rec)) (block : Option Block) (header : Block) (payload : List ℕ) → IsOpenBlock revision tail block
    → IsSealed revision (tail.number + length (listed block)) 4 payload header → IsScanned revision file tail start records
    → IsScanned revision (file ++ listed block ++ header ∷ []) (record { number = tail.number + length (listed block) + 1; bytes = [] }) start records
commit_scanned pads passes revision file tail start records None header payload is_open sealed was =
    subst (λ (bs : List Block). IsScanned revision (bs ++ header ∷ []) (record { number = tail.number + 0 + 1; bytes = [] }) start records) (sym (append-nil file))
    (passed passes revision file tail start records header payload (tail.number + 0) is_open (omega arith) sealed was)
commit_scanned pads passes revision file tail start records (Some block) header payload is_open sealed was =
    passed passes revision (file ++ block ∷ []) (record { number = tail.number + 1; bytes = [] }) start records header payload (tail.number + 1) refl refl sealed
    (pads revision file tail start records block was is_open.1)

-- no record is behind the last block
pub none_behind : (revision : ℕ) (file : List Block) (tail : OpenBlock) (start : ℕ) → tail.bytes ≡ [] → tail.number ≡ length file → start ≡ length file → IsScanned revision file tail start []
none_behind revision file tail start empty at_end is =
    subst (λ (t : OpenBlock). IsScanned revision file t start []) (λ i. record { number = tail.number; bytes = sym empty i })
    (record {
      ends = record { number = at_end; short = omega arith };
      pieces = [];
      count = 0;
      counted = omega (arith, is);
      blocks = refl;
      are = refl;
    })
