-- An open file stands for the same state and the same blocks where its disk has the same files, and its view shows the same.
use Rattle.std.proofs.Common.{◌≡◌, Bool, true, false, List, length, refl, ap, sym, subst, ◌∙◌}
use Rattle.std.specs.Prelude.{IsTrue, Option, Some, None, MatchBool}
use Rattle.std.specs.FinMap as finite
use Rattle.std.proofs.lemmas.Bool.{false≢true}
use Rattle.block_host.specs.Disk.{Disk, Image}
use Rattle.block_host.specs.declared.block.Block.{Block}
use Rattle.file_parts.specs.Held.{Held}
use Rattle.file_core.specs.Recorded.{IsRecorded}
use Rattle.file_core.specs.Stands.{Stands, AreDocuments, HasDocument, IsKept}
use Rattle.file_core.specs.Updates.{IsFile, bytes_of}
use Rattle.forest_model.specs.Blocks.{File}
use Rattle.forest_model.specs.Documents.{Map}
use Rattle.forest_model.specs.Session.{Session}
use Rattle.forest_model.specs.declared.call.StoreRef.{StoreRef}
use Rattle.forest_model.specs.declared.documents.DocKey.{DocKey}
use Rattle.forest_model.specs.declared.documents.Doc.{Doc}
use Rattle.forest_model.specs.declared.state.State.{State}
use Rattle.forest_model.specs.declared.stored.Entry.{Entry}
use Rattle.play_run.specs.Playing.{StandsFor, IsAt}

-- the entries' records are where they were
documents_kept : (told : Bool) (p : Held) (file file' : List Block) → (IsTrue told → file' ≡ file) → (documents : Map) → AreDocuments told p.revision file p.tail p.wal.entries documents
    → AreDocuments told p.revision file' p.tail p.wal.entries documents
documents_kept true p file file' same documents are = subst (λ (bs : List Block). AreDocuments true p.revision bs p.tail p.wal.entries documents) (sym (same refl)) are
documents_kept false p file file' same documents are = λ k. by k (finite.get p.wal.entries k) (finite.get documents k) (are k) where
  by : (k : DocKey) (o : Option Entry) (doc : Option Doc) → HasDocument false p.revision file p.tail k o doc → HasDocument false p.revision file' p.tail k o doc
  by k None doc has = has
  by k (Some e) doc has = lives e.live has where
    lives : (b : Bool) → MatchBool b ((d : Doc) × (doc ≡ Some d) × IsKept false p.revision file p.tail k e d) (doc ≡ None)
        → MatchBool b ((d : Doc) × (doc ≡ Some d) × IsKept false p.revision file' p.tail k e d) (doc ≡ None)
    lives true h = (h.0, h.1, record { seq = h.2.seq; len = h.2.len; there = λ t. absurd (false≢true t) })
    lives false h = h

module _ (told : Bool) (p : Held) (disk disk' : Disk) (file file' : List Block) (files : IsTrue told → disk'.files ≡ disk.files) (same : IsTrue told → file' ≡ file) where
  pub stands_kept : (s : State) → Stands told p disk file s → Stands told p disk' file' s
  stands_kept s st = record {
    running = st.running;
    shown = λ t. same t ∙ st.shown t ∙ sym (ap (λ (image : Image). image p.revision) (files t));
    is_state = st.is_state;
    rows = st.rows;
    next_store = st.next_store;
    no_key_root = st.no_key_root;
    no_seq_root = st.no_seq_root;
    documents = documents_kept told p file file' same s.documents st.documents;
    numbers = st.numbers;
    live = st.live;
    commit = st.commit;
    committed = st.committed;
    kept = st.kept;
    unchanged = st.unchanged;
    revision = st.revision;
    generation = st.generation;
    place = st.place;
    next_commit = st.next_commit;
    next_ticket = st.next_ticket;
    limits = st.limits;
    copying = st.copying;
    loose = st.loose;
    open_block = st.open_block;
    at_end = st.at_end;
    size = λ t. ap length (same t) ∙ st.size t;
    room = st.room;
    low = st.low;
    most = st.most;
    within = st.within;
    recorded = λ t. subst (λ (bs : List Block). IsRecorded p bs s) (sym (same t)) (st.recorded t);
  }

  pub is_file_kept : (f : File) → IsFile told p file f → IsFile told p file' f
  is_file_kept f is = record { shown = λ t. is.shown t ∙ ap bytes_of (sym (same t)); long = is.long; header = is.header; from = is.from }

  pub standing_kept : (s : State) (f : File) → StandsFor told (record { held = p; disk = disk; blocks = file }) s f → StandsFor told (record { held = p; disk = disk'; blocks = file' }) s f
  standing_kept s f st = record { stands = stands_kept s st.stands; file = is_file_kept f st.file }

  -- the same with the stores of the lanes
  pub session_kept : (lanes : List StoreRef) (w : Session) (f : File)
      → IsAt told (record { file = record { held = p; disk = disk; blocks = file }; lanes = lanes }) w f → IsAt told (record { file = record { held = p; disk = disk'; blocks = file' }; lanes = lanes }) w f
  session_kept lanes w f at = record { file = standing_kept w.state f at.file; lanes = at.lanes; first_file = at.first_file }
