-- The file stands for the state after a key is deleted.
use Rattle.std.proofs.Common.{◌≡◌, ℕ, ◌+◌, ◌-◌, ◌/◌, ◌≤◌, Bool, false, not, List, [], ◌∷◌, ◌++◌, length, Option, Some, None, Ok, Err, refl, sym, ap, subst, ◌∙◌, arith, inl, inr}
use Rattle.std.specs.Prelude.{IsTrue, is_none, is_some, nat_lt, Result}
use Rattle.std.specs.Option.{option_map_or}
use Rattle.std.specs.FinMap as finite
use Rattle.block_host.specs.Disk.{Disk}
use Rattle.block_host.specs.declared.block.Block.{Block}
use Rattle.doc_stream.specs.OpenBlock.{OpenBlock}
use Rattle.doc_stream.specs.Reading.{RecordAt}
use Rattle.forest_model.specs.Records.{record_bytes}
use Rattle.file_image.specs.Commits.{live_bytes}
use Rattle.forest_model.specs.Blocks.{File}
use Rattle.forest_model.specs.Documents.{Map, key_at, doc_at, count_of}
use Rattle.forest_model.specs.Limits.{is_wrong_key, any_worn}
use Rattle.forest_model.specs.Stores.{store_of, seq_of, with_seq}
use Rattle.forest_model.specs.Step.{Outcome, ◌where_holds◌, answer, causes, full, first_cause, next_seq, record_length, step_of}
use Rattle.forest_model.specs.declared.call.Call.TheVariants as calls
use Rattle.forest_model.specs.declared.call.Reply.TheVariants as replies
use Rattle.forest_model.specs.declared.call.Reply.TheVariants.{Refused}
use Rattle.forest_model.specs.declared.call.StoreRef.{StoreRef}
use Rattle.forest_model.specs.declared.documents.DocKey.{DocKey}
use Rattle.forest_model.specs.declared.documents.Doc.{Doc}
use Rattle.forest_model.specs.declared.refusal.Refusal.{Refusal}
use Rattle.forest_model.specs.declared.refusal.Refusal.TheVariants.{ReadOnly, KeyLength, NoStore, Worn, NotFound, FileFull}
use Rattle.forest_model.specs.declared.state.State.{State}
use Rattle.forest_model.specs.declared.state.Store.{Store}
use Rattle.forest_model.specs.declared.stored.Entry.{Entry}
use Rattle.forest_model.specs.declared.stored.Rec.{Rec}
use Rattle.model_laws.specs.Laws.{RulesStay, RecordsKeepHeader}
use Rattle.wal_index.specs.Index.{Map as Entries}
use Rattle.file_parts.specs.Held.{Held}
use Rattle.file_core.specs.Stands.{Stands, HasDocument, AreDocuments, DrawNumbers}
use Rattle.file_parts.specs.Moment.{Moment}
use Rattle.file_core.specs.Updates.{StandsAt, IsFile, UpdatesAs, bytes_of}
use Rattle.file_parts.specs.Causes.{seq_in, documents_in, blocks_needed}
use Rattle.file_documents.specs.Setting.{is_live, live_len}
use Rattle.file_documents.specs.Deleting.{older_in, delete_causes, deletion_of, deleted_entry, DeletesFile, DeleteGives, DeleteAnswers}
use Rattle.file_core.proofs.Answered.{there_is, has_room, answered_as, failed_as, done_as}
use Rattle.file_core.proofs.Inserted.{same_or_other, got_own, got_other}
use Rattle.file_core.proofs.Removed.{removed_own, removed_other, live-remove, count-remove, count-remove_other}
use Rattle.file_parts.proofs.Puts.{length-record}
use Rattle.file_core.proofs.SetCauses.{refused_first, answered_last, none_holds, unmet, gone_is, seq_is, documents_is, needed_is}
use Rattle.file_core.proofs.SetEntries.{has_more, older_len, older_lives, numbers_set, unchanged_by}
use Rattle.file_core.proofs.Puts.{PutsKeep, put_behind, keeps}
use Rattle.file_core.proofs.RecordedMore.{PutScans, More, told_of, drawn_more}
use Rattle.file_core.proofs.RecordedPuts.{grown_more}
use Rattle.file_core.proofs.StoreTables.{id_below}
use Rattle.file_core.proofs.SetStands.{no_refusal}
use Rattle.file_core.proofs.Written.{Update, puts, written_stands, written_grows, written_file}

-- ---- why it is refused

module _ (told : Bool) (p : Held) (disk : Disk) (file : List Block) (s : State) (f : File) (at : StoreRef) (key : List ℕ) (stands : Stands told p disk file s) (is_long : length f ≡ p.blocks) where
  pub living_is : is_live (older_in p at.store key) ≡ is_some (doc_at s.documents at.store key)
  living_is = older_lives told p.revision file p.tail (key_at at.store key) (older_in p at.store key) (doc_at s.documents at.store key) (stands.documents (key_at at.store key))

  needed_too : blocks_needed p key [] [] ≡ (s.loose + record_length key [] []) / 4064
  needed_too = needed_is told p disk file s f at key [] [] stands is_long

  causes_are : delete_causes p at key ≡ causes s (calls.Delete at key) ++ full s f (calls.Delete at key) ∷ []
  causes_are = λ i.
      (ReadOnly where_holds at.read_only) ∷ (KeyLength where_holds is_wrong_key key)
      ∷ (NoStore where_holds gone_is told p disk file s f at key [] [] stands is_long i)
      ∷ (Worn where_holds any_worn ((seq_is told p disk file s f at key [] [] stands is_long i + 1) ∷ (stands.place i + 1) ∷ []))
      ∷ (NotFound where_holds not (living_is i))
      ∷ (FileFull (sym is_long i) (needed_too i) (stands.limits i).max_blocks where_holds nat_lt (stands.limits i).max_blocks (sym is_long i + needed_too i + 2)) ∷ []

  pub delete_refused : (why : Refusal) → first_cause (delete_causes p at key) ≡ Some why → step_of s f (calls.Delete at key) ≡ (Refused why, s)
  delete_refused why e =
      refused_first (causes s (calls.Delete at key)) (full s f (calls.Delete at key)) s (answer s (calls.Delete at key)) why (ap first_cause (sym causes_are) ∙ e)

  pub delete_answered : first_cause (delete_causes p at key) ≡ None → step_of s f (calls.Delete at key) ≡ answer s (calls.Delete at key)
  delete_answered e =
      answered_last (causes s (calls.Delete at key)) (full s f (calls.Delete at key)) s (answer s (calls.Delete at key)) (ap first_cause (sym causes_are) ∙ e)

-- ---- the documents

module _ (told : Bool) (revision : ℕ) (file file' : List Block) (tail tail' : OpenBlock) (keeps : IsTrue told → (address : ℕ) (r : Rec) → RecordAt revision file tail address r → RecordAt revision file' tail' address r) where
  pub documents_deleted : (entries : Entries) (documents : Map) (k : DocKey) (seq : ℕ) → AreDocuments told revision file tail entries documents
      → AreDocuments told revision file' tail' (finite.insert entries k (deleted_entry tail k seq)) (finite.remove documents k)
  documents_deleted entries documents k seq are q = elim (same_or_other q k) [
    | inl same ↦ subst (λ (x : DocKey). HasDocument told revision file' tail' x (finite.get (finite.insert entries k (deleted_entry tail k seq)) x) (finite.get (finite.remove documents k) x)) (sym same)
        (subst (λ (oe : Option Entry). HasDocument told revision file' tail' k oe (finite.get (finite.remove documents k) k)) (sym (got_own entries k (deleted_entry tail k seq)))
        (removed_own documents k))
    | inr other ↦ subst (λ (oe : Option Entry). HasDocument told revision file' tail' q oe (finite.get (finite.remove documents k) q)) (sym (got_other entries k q (deleted_entry tail k seq) other))
        (subst (λ (od : Option Doc). HasDocument told revision file' tail' q (finite.get entries q) od) (sym (removed_other documents k q other))
        (has_more told revision file file' tail tail' keeps q (finite.get entries q) (finite.get documents q) (are q)))
  ]

-- ---- a deletion that is done

module _ (keep : PutsKeep) (told : Bool) (at : StoreRef) (key : List ℕ) (old new : Moment) (s : State) (f : File) (stands : StandsAt told old s) (is_long : length f ≡ old.held.blocks) (st : Store) (found : store_of s.stores at.store ≡ Some st) (d : Doc) (has : doc_at s.documents at.store key ≡ Some d) (room : old.held.blocks + blocks_needed old.held key [] [] + 2 ≤ old.held.limits.max_blocks) (stepped : step_of s f (calls.Delete at key) ≡ answer s (calls.Delete at key)) (deletes : DeletesFile told (key_at at.store key) (next_seq s at) old new) where
  abbrev k : DocKey
  k = key_at at.store key

  abbrev left : Map
  left = finite.remove s.documents k

  abbrev older : Option Entry
  older = finite.get old.held.wal.entries k

  pub update : Update told at (calls.Delete at key) (record_length key [] []) (next_seq s at) (documents_in old.held.names.rows at.store - 1) (old.held.live - live_len older) (record_bytes (deletion_of k (next_seq s at))) left old new s f
  update = record {
    stands = stands;
    room = room;
    long = length-record (deletion_of k (next_seq s at));
    stepped = ap (λ (o : Outcome). o.1) stepped;
    writes = deletes.writes;
  }

  documents_are : AreDocuments told old.held.revision new.file new.held.tail new.held.wal.entries left
  documents_are =
      subst (λ (m : finite.FinMap _ Entry). AreDocuments told old.held.revision new.file new.held.tail m left) (sym deletes.entries)
      (documents_deleted told old.held.revision old.file new.file old.held.tail new.held.tail (keeps keep (puts update)) old.held.wal.entries s.documents k (next_seq s at) stands.documents)

  seq_next : seq_of s.stores at.store ≡ st.seq
  seq_next = ap (λ (o : Option Store). option_map_or (λ t. t.seq) o 0) found

  numbers_are : DrawNumbers new.held.wal.entries (with_seq s.stores at.store (next_seq s at))
  numbers_are =
      subst (λ (m : finite.FinMap _ Entry). DrawNumbers m (with_seq s.stores at.store (next_seq s at))) (sym deletes.entries)
      (numbers_set old.held.wal.entries s.stores at.store key st (deleted_entry old.held.tail k (next_seq s at)) stands.numbers found (ap (λ n. n + 1) seq_next))

  counted_now : documents_in old.held.names.rows at.store - 1 ≡ count_of left at.store
  counted_now =
      omega (arith, documents_is told old.held old.disk old.file s f at key [] [] stands is_long st found, count-remove s.documents k, ap {B = ℕ} (λ (o : Option Doc). option_map_or (λ _. 1) o 0) has)

  live_now : old.held.live - live_len older ≡ live_bytes left
  live_now =
      let gone = older_len told old.held.revision old.file old.held.tail k older (finite.get s.documents k) (stands.documents k) in
      omega (arith, gone, live-remove s.documents k, stands.live)

  more : PutScans → IsTrue told → More old.held.revision old.held.tail new.held.tail old.file new.file (told_of s) (told_of (answer s (calls.Delete at key)).1)
  more scans =
      grown_more (puts update) (told_of s) (told_of (answer s (calls.Delete at key)).1)
      (drawn_more scans (deletion_of k (next_seq s at)) deletes.is_record (put_behind (puts update)) s.next_store s.stores s.documents left st refl found (omega (arith, seq_next))
      (id_below s.next_store at.store s.stores st stands.is_state.ids_drawn found) (λ t same. ap (λ (x : Map). finite.remove x k) same) refl)

  pub delete_stands : RulesStay → PutScans → StandsAt told new (answer s (calls.Delete at key)).1
  delete_stands rules scans =
      written_stands update rules documents_are numbers_are counted_now (λ j other. count-remove_other s.documents k j other) live_now (omega arith)
      (unchanged_by s at.store (next_seq s at) st left (λ q other. removed_other s.documents k q (λ own. other (ap (λ (x : DocKey). x.store) own))) stands.unchanged found (omega (arith, seq_next))) (more scans)

-- ---- what a deletion answers

pub delete_updates : RulesStay → RecordsKeepHeader → PutsKeep → PutScans → (told : Bool) (at : StoreRef) (key : List ℕ) (old new : Moment) (result : Result ℕ Refusal)
    → DeleteAnswers told at key old new result → (s : State) (f : File) → StandsAt told old s → IsFile told old.held old.file f → UpdatesAs told replies.Seq s f (calls.Delete at key) old new result
delete_updates rules headers keep scans told at key old new result answers s f stands was = answered_as told replies.Seq (calls.Delete at key) old new s f stands was no_refusal _ result (delete_refused told old.held old.disk old.file s f at key stands was.long) (given result) answers where
  given : (r : Result ℕ Refusal) → first_cause (delete_causes old.held at key) ≡ None → DeleteGives told at key old new r → UpdatesAs told replies.Seq s f (calls.Delete at key) old new r
  given (Ok seq) free gives =
      let step = delete_answered told old.held old.disk old.file s f at key stands was.long free in
      let next : seq_in old.held.names.rows at.store ≡ seq_of s.stores at.store = seq_is told old.held old.disk old.file s f at key [] [] stands was.long in
      let deletes : DeletesFile told (key_at at.store key) (next_seq s at) old new = subst (λ (n : ℕ). DeletesFile told (key_at at.store key) (n + 1) old new) next gives.1 in
      let causes = none_holds (delete_causes old.held at key) free in
      let gone : is_none (store_of s.stores at.store) ≡ false = sym (gone_is told old.held old.disk old.file s f at key [] [] stands was.long) ∙ unmet _ _ causes.1.1.0 in
      let there = there_is (store_of s.stores at.store) gone in
      let has : is_none (doc_at s.documents at.store key) ≡ false = sym (ap not (living_is told old.held old.disk old.file s f at key stands was.long)) ∙ unmet _ _ causes.1.1.1.1.0 in
      let document = there_is (doc_at s.documents at.store key) has in
      let room : old.held.blocks + blocks_needed old.held key [] [] + 2 ≤ old.held.limits.max_blocks = has_room _ _ _ (unmet _ _ causes.1.1.1.1.1.0) in
      let whole = update keep told at key old new s f stands was.long there.0 there.1 document.0 document.1 room step deletes in
      done_as told replies.Seq (calls.Delete at key) old new s f stands was no_refusal seq (answer s (calls.Delete at key)).1 (f ++ bytes_of whole.writes.out)
      (step ∙ ap (λ (n : ℕ). (replies.Seq n, (answer s (calls.Delete at key)).1)) (ap (λ n. n + 1) (sym next) ∙ sym gives.0))
      (delete_stands keep told at key old new s f stands was.long there.0 there.1 document.0 document.1 room step deletes rules scans)
      (written_grows whole (λ adds. adds))
      (written_file whole headers was)
      gives.1.writes.writes.gone
  given (Err why) free gives =
      let step = delete_answered told old.held old.disk old.file s f at key stands was.long free in
      failed_as told replies.Seq (calls.Delete at key) old new s f stands was no_refusal _ why (ap (λ (o : Outcome). o.0) step) gives
