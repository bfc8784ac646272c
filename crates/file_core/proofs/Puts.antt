-- What the file is once bytes are put behind the open block.
use Rattle.std.proofs.Common.{◌≡◌, ℕ, ◌+◌, ◌*◌, ◌/◌, ◌%◌, ◌≤◌, ◌<◌, Bool, List, [], ◌++◌, length, Some, refl, sym, ap, subst, ◌∙◌, arith, length-append}
use Rattle.std.specs.Prelude.{IsTrue, MatchBool}
use Rattle.std.specs.List.{list_all}
use Rattle.std.specs.FinMap as finite
use Rattle.std.proofs.lemmas.Bool.{eq-eqb}
use Rattle.block_host.specs.Disk.{Disk}
use Rattle.block_host.specs.declared.block.Block.{Block}
use Rattle.doc_stream.specs.OpenBlock.{OpenBlock, PutsBytes, address_of}
use Rattle.doc_stream.specs.Reading.{RecordAt}
use Rattle.forest_model.specs.Records.{is_record, record_bytes}
use Rattle.forest_model.specs.Blocks.{File, is_records}
use Rattle.forest_model.specs.Run.{FileAfter, Grows, AddsRecords}
use Rattle.forest_model.specs.Step.{record_length}
use Rattle.forest_model.specs.declared.call.Call.{Call}
use Rattle.forest_model.specs.declared.state.State.{State}
use Rattle.forest_model.specs.declared.stored.Rec.{Rec}
use Rattle.model_laws.specs.Laws.{RecordsKeepHeader}
use Rattle.file_parts.specs.Held.{Held}
use Rattle.file_core.specs.Stands.{Stands, AreDocuments}
use Rattle.file_parts.specs.Moment.{Moment}
use Rattle.file_parts.specs.Records.{PutsRecord}
use Rattle.file_core.specs.Updates.{StandsAt, IsFile, bytes_of}
use Rattle.file_parts.proofs.Puts.{length-record}
use Rattle.file_core.proofs.SetBlocks.{Lengths, put_lengths, put_records, put_whole, put_full, behind, length-bytes_of, bytes-append}
use Rattle.file_core.proofs.SetEntries.{has_more}

-- ---- what the crates below promise of records

abbrev pub PutsKeep : Type 0
PutsKeep = (revision : ℕ) (bytes : List ℕ) (before after : OpenBlock) (file grown : List Block) (address : ℕ) (r : Rec) → before.number ≡ length file
    → length before.bytes < 4064 → length after.bytes < 4064 → PutsBytes revision bytes before after file grown → RecordAt revision file before address r → RecordAt revision grown after address r

abbrev pub PutStands : Type 0
PutStands = (revision : ℕ) (r : Rec) (before after : OpenBlock) (file grown : List Block) → before.number ≡ length file → length before.bytes < 4064 → IsTrue (is_record r)
    → PutsBytes revision (record_bytes r) before after file grown → RecordAt revision grown after (address_of before.number (length before.bytes)) r

-- ---- before the bytes are put

pub open_short : {told : Bool} {p : Held} {disk : Disk} {file : List Block} {s : State} → Stands told p disk file s → length p.tail.bytes < 4064
open_short stands = let h = stands.is_state.open_block in omega (arith, stands.open_block, h)

pub is_end : {told : Bool} {p : Held} {disk : Disk} {file : List Block} {s : State} → Stands told p disk file s → IsTrue told → p.tail.number ≡ length file
is_end stands t = stands.at_end ∙ sym (stands.size t)

-- Where the file stands for a state, n bytes are put: they are behind those of the open block, and the full blocks at the file's end.
pub record Puts (told : Bool) (bytes : List ℕ) (n : ℕ) (old new : Moment) (s : State) : Type 0 where
  pub stands : StandsAt told old s
  pub long : length bytes ≡ n
  pub out : List Block
  pub put : PutsBytes old.held.revision bytes old.held.tail new.held.tail [] out
  pub files : IsTrue told → new.disk.files old.held.revision ≡ old.disk.files old.held.revision ++ out
  pub shown : IsTrue told → old.file ≡ old.disk.files old.held.revision → new.file ≡ new.disk.files old.held.revision

-- the same of the bytes of one record
abbrev pub puts_of_record : {told : Bool} (r : Rec) (old new : Moment) (s : State) → StandsAt told old s → PutsRecord told r old new → Puts told (record_bytes r) (record_length r.key r.meta r.body) old new s
puts_of_record r old new s stands puts = record { stands = stands; long = length-record r; out = puts.out; put = puts.put; files = puts.files; shown = puts.shown }

-- ---- the open block and the blocks of the file

module _ {told : Bool} {bytes : List ℕ} {n : ℕ} {old new : Moment} {s : State} (puts : Puts told bytes n old new s) where
  lengths : Lengths n old.held.tail new.held.tail puts.out
  lengths = put_lengths old.held.revision n bytes old.held.tail new.held.tail puts.out puts.put puts.long

  pub new_short : length new.held.tail.bytes < 4064
  new_short = omega (arith, lengths.loose)

  pub loose_is : length new.held.tail.bytes ≡ (s.loose + n) % 4064
  loose_is = lengths.loose ∙ ap (λ m. (m + n) % 4064) puts.stands.open_block

  -- there is still room for two blocks where there was for the bytes and two
  pub room_left : old.held.blocks + (length old.held.tail.bytes + n) / 4064 + 2 ≤ old.held.limits.max_blocks → new.held.tail.number + 2 ≤ s.limits.max_blocks
  room_left room = omega (arith, lengths.number, lengths.count, puts.stands.at_end, room, ap (λ l. l.max_blocks) puts.stands.limits)

  pub bytes_are : new.held.tail.number * 4064 + length new.held.tail.bytes ≡ old.held.blocks * 4064 + length old.held.tail.bytes + n
  bytes_are = omega (arith, lengths.number, lengths.count, lengths.loose, puts.stands.at_end)

  pub grown : IsTrue told → new.file ≡ old.file ++ puts.out
  grown t = puts.shown t (puts.stands.shown t) ∙ puts.files t ∙ ap (λ bs. bs ++ puts.out) (sym (puts.stands.shown t))

  pub size_is : IsTrue told → length new.file ≡ new.held.tail.number
  size_is t = omega (arith, ap length (grown t), length-append old.file puts.out, lengths.number, is_end puts.stands t)

  pub put_behind : PutsBytes old.held.revision bytes old.held.tail new.held.tail old.file (old.file ++ puts.out)
  put_behind = behind old.held.revision bytes old.held.tail new.held.tail old.file puts.out puts.put

  records_are : IsTrue (list_all is_records (bytes_of puts.out))
  records_are = put_records old.held.revision bytes old.held.tail new.held.tail puts.out puts.put

  adds : (f : File) → AddsRecords ((s.loose + n) / 4064) f (f ++ bytes_of puts.out)
  adds f = record {
    records = bytes_of puts.out;
    all = refl;
    count = length-bytes_of puts.out ∙ lengths.count ∙ ap (λ m. (m + n) / 4064) puts.stands.open_block;
    whole = put_whole old.held.revision bytes old.held.tail new.held.tail puts.out puts.put;
    full = put_full old.held.revision bytes old.held.tail new.held.tail puts.out puts.put;
  }

  -- a call that is an update, and grows by the blocks of the records
  pub grows : (f : File) (call : Call) (after : State) → after.place ≡ s.place + 1 → (AddsRecords ((s.loose + n) / 4064) f (f ++ bytes_of puts.out) → Grows s f call (f ++ bytes_of puts.out))
      → FileAfter s f (Some call) after (f ++ bytes_of puts.out)
  grows f call after place by_adding = subst (λ (b : Bool). MatchBool b (Grows s f call (f ++ bytes_of puts.out)) (f ++ bytes_of puts.out ≡ f)) (sym (eq-eqb after.place (s.place + 1) place)) (by_adding (adds f))

  -- the file of what is in memory at the end
  pub file_is : RecordsKeepHeader → (f : File) → IsFile told old.held old.file f → new.held.header ≡ old.held.header → new.held.header_at ≡ old.held.header_at → new.held.blocks ≡ new.held.tail.number
      → IsFile told new.held new.file (f ++ bytes_of puts.out)
  file_is headers f was header at blocks =
      let kept = headers f (bytes_of puts.out) records_are in
      record {
        shown = λ t. ap (λ (bs : File). bs ++ bytes_of puts.out) (was.shown t) ∙ sym (bytes-append old.file puts.out) ∙ ap bytes_of (sym (grown t));
        long = omega (arith, length-append f (bytes_of puts.out), length-bytes_of puts.out, was.long, lengths.number, puts.stands.at_end, blocks);
        header = kept.0 ∙ was.header ∙ ap Some (sym at);
        from = kept.1 ∙ was.from ∙ ap (λ h. h.wal_from) (sym header);
      }

-- ---- the records

module _ (keep : PutsKeep) {told : Bool} {bytes : List ℕ} {n : ℕ} {old new : Moment} {s : State} (puts : Puts told bytes n old new s) where
  -- records that stood before still stand
  pub keeps : IsTrue told → (address : ℕ) (r : Rec) → RecordAt old.held.revision old.file old.held.tail address r → RecordAt old.held.revision new.file new.held.tail address r
  keeps t address r h =
      subst (λ (bs : List Block). RecordAt old.held.revision bs new.held.tail address r) (sym (grown puts t))
      (keep old.held.revision bytes old.held.tail new.held.tail old.file (old.file ++ puts.out) address r (is_end puts.stands t) (open_short puts.stands) (new_short puts) (put_behind puts) h)

  pub documents_stay : AreDocuments told old.held.revision new.file new.held.tail old.held.wal.entries s.documents
  documents_stay k =
      has_more told old.held.revision old.file new.file old.held.tail new.held.tail keeps k (finite.get old.held.wal.entries k) (finite.get s.documents k) (puts.stands.documents k)

-- one record that is put stands where the open block ended
pub lies : PutStands → {told : Bool} {n : ℕ} {old new : Moment} {s : State} (r : Rec) (puts : Puts told (record_bytes r) n old new s) → IsTrue (is_record r)
    → IsTrue told → RecordAt old.held.revision new.file new.held.tail (address_of old.held.tail.number (length old.held.tail.bytes)) r
lies lands {old = old} {new = new} r puts is t =
    subst (λ (bs : List Block). RecordAt old.held.revision bs new.held.tail (address_of old.held.tail.number (length old.held.tail.bytes)) r) (sym (grown puts t))
    (lands old.held.revision r old.held.tail new.held.tail old.file (old.file ++ puts.out) (is_end puts.stands t) (open_short puts.stands) is (put_behind puts))
