-- What the steps of a set leave together.
use Rattle.std.proofs.Common.{◌≡◌, ℕ, ◌+◌, List, length, sym, ap, subst, ◌∙◌, Bool}
use Rattle.std.specs.Prelude.{IsTrue}
use Rattle.std.specs.FinMap as finite
use Rattle.forest_model.specs.Records.{is_record}
use Rattle.forest_model.specs.Documents.{key_at, doc_of}
use Rattle.forest_model.specs.declared.documents.DocKey.{DocKey}
use Rattle.forest_model.specs.declared.documents.Doc.{Doc}
use Rattle.forest_model.specs.declared.stored.Entry.{Entry}
use Rattle.forest_model.specs.declared.stored.Rec.{Rec}
use Rattle.kvs_names.specs.Table.{counted}
use Rattle.wal_index.specs.Index.{Index}
use Rattle.file_parts.specs.Held.{Held}
use Rattle.file_documents.specs.Setting.{put_of, documents_after, live_after, entry_of, SetsFile}
use Rattle.file_parts.specs.Causes.{documents_in}
use Rattle.file_parts.specs.Moment.{Moment}
use Rattle.file_parts.specs.Records.{PutsRecord}
use Rattle.file_parts.proofs.Puts.{put_on}

-- the index has room, the record is put, and then all else is changed
pub entered : (told : Bool) (k : DocKey) (d : Doc) (old mid new : Moment) (w : Index) (room : List ℕ) (r : Rec) (e : Entry) (documents : ℕ)
    → w.entries ≡ old.held.wal.entries → w.gone ≡ old.held.wal.gone → room ≡ k.key → r ≡ put_of k d → IsTrue (is_record r) → e ≡ entry_of old.held.tail k d → documents ≡ documents_in old.held.names.rows k.store
    → PutsRecord told r (record old { held = record (old.held) { wal = w } }) mid → mid.held ≡ record (old.held) { wal = w; tail = mid.held.tail }
    → new.disk ≡ mid.disk → new.file ≡ mid.file
    → new.held.wal.entries ≡ finite.insert mid.held.wal.entries (key_at k.store room) e → new.held.wal.gone ≡ mid.held.wal.gone
    → new.held ≡ record (mid.held) {
      blocks = mid.held.tail.number;
      names = counted mid.held.names k.store e.seq (documents_after (finite.get mid.held.wal.entries (key_at k.store room)) documents);
      wal = new.held.wal;
      loose = length mid.held.tail.bytes;
      live = live_after (finite.get mid.held.wal.entries (key_at k.store room)) mid.held.live e.len;
      place = mid.held.place + 1;
    }
    → SetsFile told k d old new
entered told k d old mid new w room r e documents w_is gone_is room_is r_is is e_is counts puts mid_is disk_is file_is inserted gone rest =
    let t_is : mid.held.tail ≡ new.held.tail = sym (ap (λ (h : Held). h.tail) rest) in
    let known : mid.held.wal.entries ≡ old.held.wal.entries = ap (λ (h : Held). h.wal.entries) mid_is ∙ w_is in
    let lies : PutsRecord told (put_of k d) old new = put_on told old mid new w r (put_of k d) r_is puts t_is disk_is file_is in
    record {
      out = lies.out;
      sets = record {
        is_record = subst (λ (q : Rec). IsTrue (is_record q)) r_is is;
        put = lies.put;
        entries = inserted ∙ (λ i. finite.insert (known i) (key_at k.store (room_is i)) (e_is i));
        gone = gone ∙ ap (λ (h : Held). h.wal.gone) mid_is ∙ gone_is;
        rest = rest ∙ (λ i. record (mid_is i) {
          blocks = (t_is i).number;
          names = counted (mid_is i).names k.store (e_is i).seq (documents_after (finite.get (known i) (key_at k.store (room_is i))) (counts i));
          wal = new.held.wal;
          tail = t_is i;
          loose = length (t_is i).bytes;
          live = live_after (finite.get (known i) (key_at k.store (room_is i))) (mid_is i).live (e_is i).len;
          place = (mid_is i).place + 1;
        });
      };
      files = lies.files;
      shown = lies.shown;
    }

-- the record of a document at the next number
pub next_record : (store n m : ℕ) (key meta body : List ℕ) (r : Rec) → r ≡ record { kind = 1; store = store; seq = n + 1; key = key; meta = meta; body = body } → n ≡ m
    → r ≡ put_of (key_at store key) (doc_of (m + 1) meta body)
next_record store n m key meta body r is same = is ∙ ap (λ (x : ℕ). put_of (key_at store key) (doc_of (x + 1) meta body)) same
