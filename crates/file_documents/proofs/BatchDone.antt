-- What the steps of a batch leave together.
use Rattle.std.proofs.Common.{◌≡◌, ℕ, ◌+◌, Bool, List, [], ◌++◌, length, refl, sym, ap, subst, ◌∙◌}
use Rattle.std.specs.Prelude.{IsTrue}
use Rattle.block_host.specs.declared.block.Block.{Block}
use Rattle.doc_stream.specs.OpenBlock.{OpenBlock}
use Rattle.forest_model.specs.declared.call.Item.{Item}
use Rattle.kvs_names.specs.Table.{counted}
use Rattle.wal_index.specs.Index.{Index}
use Rattle.file_parts.specs.Held.{Held}
use Rattle.file_documents.specs.declared.batch_puts.Pending.{Pending}
use Rattle.file_documents.specs.Batching.{Turn, BatchesFile, first_turn}
use Rattle.file_documents.specs.BatchPuts.{Known, PutsAll, known_after, known_from}
use Rattle.file_parts.specs.Causes.{seq_in, documents_in}
use Rattle.file_parts.specs.Moment.{Moment}
use Rattle.file_documents.proofs.BatchPut.{known_at, puts_each}

-- the records are put and the index has room, the blocks are in the file, and then all else is changed
pub batched : (told : Bool) (store seq documents : ℕ) (items : List Item) (ps : List Pending) (old mid new : Moment) (w : Index) (t : OpenBlock) (out blocks : List Block)
    → seq ≡ seq_in old.held.names.rows store → documents ≡ documents_in old.held.names.rows store → w.entries ≡ old.held.wal.entries → w.gone ≡ old.held.wal.gone
    → PutsAll old.held.revision store seq items ps old.held.tail t [] out
    → mid.held ≡ record (old.held) { wal = w } → new.disk ≡ mid.disk → new.file ≡ mid.file
    → blocks ≡ out → (IsTrue told → mid.disk.files old.held.revision ≡ old.disk.files old.held.revision ++ blocks)
    → (IsTrue told → old.file ≡ old.disk.files old.held.revision → mid.file ≡ mid.disk.files old.held.revision)
    → new.held.wal.entries ≡ (known_after store (known_from mid.held.wal.entries documents mid.held.live) ps).entries → new.held.wal.gone ≡ mid.held.wal.gone
    → new.held ≡ record (mid.held) {
      blocks = t.number;
      names = counted mid.held.names store (seq + length items) (known_after store (known_from mid.held.wal.entries documents mid.held.live) ps).documents;
      wal = new.held.wal;
      tail = t;
      loose = length t.bytes;
      live = (known_after store (known_from mid.held.wal.entries documents mid.held.live) ps).live;
      place = mid.held.place + 1;
    }
    → BatchesFile told store items old new
batched told store seq documents items ps old mid new w t out blocks seq_is counts w_is gone_is puts mid_is disk_is file_is blocks_are files shown entries gone rest =
    let first : Turn = first_turn old.held store in
    let known : mid.held.wal.entries ≡ old.held.wal.entries = ap (λ (h : Held). h.wal.entries) mid_is ∙ w_is in
    let same : known_after store (known_from mid.held.wal.entries documents mid.held.live) ps ≡ known_after store (known_at first) ps =
    (λ i. known_after store (known_from (known i) (counts i) (mid_is i).live) ps) in
    let k : Known = known_after store (known_at first) ps in
    let last : Turn = record { tail = t; entries = k.entries; seq = first.seq + length items; documents = k.documents; live = k.live } in
    record {
      last = last;
      out = out;
      each = puts_each old.held.revision store items ps first last [] out (subst (λ (n : ℕ). PutsAll old.held.revision store n items ps old.held.tail t [] out) seq_is puts) refl refl;
      entries = entries ∙ ap (λ (x : Known). x.entries) same;
      gone = gone ∙ ap (λ (h : Held). h.wal.gone) mid_is ∙ gone_is;
      rest = rest ∙ (λ i. record (mid_is i) {
        blocks = t.number;
        names = counted (mid_is i).names store (seq_is i + length items) (same i).documents;
        wal = new.held.wal;
        tail = t;
        loose = length t.bytes;
        live = (same i).live;
        place = (mid_is i).place + 1;
      });
      files = λ tells. ap (λ d. d.files old.held.revision) disk_is ∙ files tells ∙ ap (λ bs. old.disk.files old.held.revision ++ bs) blocks_are;
      shown = λ tells was. file_is ∙ shown tells was ∙ sym (ap (λ d. d.files old.held.revision) disk_is);
    }
