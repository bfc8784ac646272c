-- The file stands for the state after a set.
use Rattle.std.proofs.Common.{◌≡◌, ◌≢◌, ℕ, ◌+◌, ◌-◌, ◌^◌, ◌≤◌, ◌<◌, Bool, false, List, ◌++◌, length, Option, Some, None, Ok, Err, refl, sym, ap, subst, ◌∙◌, arith}
use Rattle.std.specs.Prelude.{min, IsTrue, is_none, is_some, Result, if◌then◌else◌}
use Rattle.std.specs.Option.{option_map_or}
use Rattle.std.specs.FinMap as finite
use Rattle.forest_model.specs.Records.{record_bytes}
use Rattle.file_image.specs.Commits.{live_bytes}
use Rattle.forest_model.specs.Blocks.{File}
use Rattle.forest_model.specs.Documents.{Map, key_at, doc_of, count_of}
use Rattle.forest_model.specs.Stores.{store_of, seq_of, with_seq}
use Rattle.forest_model.specs.Step.{Outcome, answer, first_cause, next_seq, record_length, step_of}
use Rattle.forest_model.specs.declared.call.Call.TheVariants as calls
use Rattle.forest_model.specs.declared.call.Reply.TheVariants as replies
use Rattle.forest_model.specs.declared.call.StoreRef.{StoreRef}
use Rattle.forest_model.specs.declared.documents.DocKey.{DocKey}
use Rattle.forest_model.specs.declared.documents.Doc.{Doc}
use Rattle.forest_model.specs.declared.refusal.Refusal.{Refusal}
use Rattle.forest_model.specs.declared.state.State.{State}
use Rattle.forest_model.specs.declared.state.Store.{Store}
use Rattle.forest_model.specs.declared.stored.Entry.{Entry}
use Rattle.model_laws.specs.Laws.{RulesStay, RecordsKeepHeader}
use Rattle.file_core.specs.Stands.{AreDocuments, DrawNumbers}
use Rattle.file_documents.specs.Setting.{put_of, set_causes, is_live, documents_after, live_after, entry_of, SetsFile, SetGives, SetAnswers}
use Rattle.file_parts.specs.Moment.{Moment}
use Rattle.file_core.specs.Updates.{StandsAt, IsFile, UpdatesAs, bytes_of}
use Rattle.file_parts.specs.Causes.{seq_in, documents_in, blocks_needed}
use Rattle.file_core.proofs.Inserted.{live-part, live-insert, count-insert, count-other, count-live}
use Rattle.file_core.proofs.Answered.{there_is, has_room, answered_as, failed_as, done_as}
use Rattle.file_core.proofs.SetCauses.{none_holds, unmet, gone_is, seq_is, documents_is, step_refused, step_answered}
use Rattle.file_core.proofs.SetEntries.{documents_set, older_len, older_lives, numbers_set, unchanged_set}
use Rattle.file_core.proofs.Puts.{PutsKeep, PutStands, open_short, new_short, room_left, bytes_are, put_behind, keeps, lies}
use Rattle.file_core.proofs.RecordedMore.{PutScans, More, told_of, drawn_more}
use Rattle.file_core.proofs.RecordedPuts.{grown_more}
use Rattle.file_core.proofs.StoreTables.{id_below}
use Rattle.file_core.proofs.Written.{Update, puts, written_stands, written_grows, written_file}
use Rattle.file_parts.proofs.Puts.{length-record}

-- ---- numbers

pub counted_is : (od : Option Doc) (b : Bool) (n c c' : ℕ) → b ≡ is_some od → n ≡ c → c < 2 ^ 63 → c' + option_map_or (λ _. 1) od 0 ≡ c + 1 → (if b then n else min (n + 1) (2 ^ 64 - 1)) ≡ c'
counted_is None b n c c' lives same small more = ap (λ (t : Bool). if t then n else min (n + 1) (2 ^ 64 - 1)) lives ∙ omega (arith, same, small, more)
counted_is (Some d) b n c c' lives same small more = ap (λ (t : Bool). if t then n else min (n + 1) (2 ^ 64 - 1)) lives ∙ omega (arith, same, more)

-- ---- a set that is done

module _ (keep : PutsKeep) (lands : PutStands) (told : Bool) (at : StoreRef) (key meta body : List ℕ) (old new : Moment) (s : State) (f : File) (stands : StandsAt told old s) (is_long : length f ≡ old.held.blocks) (st : Store) (found : store_of s.stores at.store ≡ Some st) (room : old.held.blocks + blocks_needed old.held key meta body + 2 ≤ old.held.limits.max_blocks) (stepped : step_of s f (calls.Set at key meta body) ≡ answer s (calls.Set at key meta body)) (sets : SetsFile told (key_at at.store key) (doc_of (next_seq s at) meta body) old new) where
  abbrev k : DocKey
  k = key_at at.store key

  abbrev d : Doc
  d = doc_of (next_seq s at) meta body

  abbrev n : ℕ
  n = record_length key meta body

  abbrev m : Map
  m = finite.insert s.documents k d

  abbrev older : Option Entry
  older = finite.get old.held.wal.entries k

  pub update : Update told at (calls.Set at key meta body) n (next_seq s at) (documents_after older (documents_in old.held.names.rows at.store)) (live_after older old.held.live n) (record_bytes (put_of k d)) m old new s f
  update = record {
    stands = stands;
    room = room;
    long = length-record (put_of k d);
    stepped = ap (λ (o : Outcome). o.1) stepped;
    writes = record { out = sets.out; writes = record { put = sets.sets.put; gone = sets.sets.gone; rest = sets.sets.rest }; files = sets.files; shown = sets.shown };
  }

  documents_are : AreDocuments told old.held.revision new.file new.held.tail new.held.wal.entries m
  documents_are =
      subst (λ (es : finite.FinMap _ Entry). AreDocuments told old.held.revision new.file new.held.tail es m) (sym sets.sets.entries)
      (documents_set told old.held.revision old.file new.file old.held.tail new.held.tail (keeps keep (puts update)) old.held.wal.entries s.documents k d stands.documents (lies lands (put_of k d) (puts update) sets.sets.is_record))

  seq_next : seq_of s.stores at.store ≡ st.seq
  seq_next = ap (λ (o : Option Store). option_map_or (λ t. t.seq) o 0) found

  numbers_are : DrawNumbers new.held.wal.entries (with_seq s.stores at.store (next_seq s at))
  numbers_are =
      subst (λ (es : finite.FinMap _ Entry). DrawNumbers es (with_seq s.stores at.store (next_seq s at))) (sym sets.sets.entries)
      (numbers_set old.held.wal.entries s.stores at.store key st (entry_of old.held.tail k d) stands.numbers found (ap (λ n. n + 1) seq_next))

  small : live_bytes s.documents < 2 ^ 62
  small = omega (arith, stands.live, stands.within, stands.low, open_short stands)

  counted_now : documents_after older (documents_in old.held.names.rows at.store) ≡ count_of m at.store
  counted_now =
      counted_is (finite.get s.documents k) (is_live older) (documents_in old.held.names.rows at.store) (count_of s.documents at.store) (count_of m at.store)
      (older_lives told old.held.revision old.file old.held.tail k older (finite.get s.documents k) (stands.documents k))
      (documents_is told old.held old.disk old.file s f at key meta body stands is_long st found)
      (omega (arith, count-live s.documents at.store, small))
      (count-insert s.documents k d)

  live_now : live_after older old.held.live n ≡ live_bytes m
  live_now =
      let gone = older_len told old.held.revision old.file old.held.tail k older (finite.get s.documents k) (stands.documents k) in
      omega (arith, gone, bytes_are (puts update), room_left (puts update) room, stands.most, new_short (puts update), live-part s.documents k, live-insert s.documents k d, stands.live, small)

  more : PutScans → IsTrue told → More old.held.revision old.held.tail new.held.tail old.file new.file (told_of s) (told_of (answer s (calls.Set at key meta body)).1)
  more scans =
      grown_more (puts update) (told_of s) (told_of (answer s (calls.Set at key meta body)).1)
      (drawn_more scans (put_of k d) sets.sets.is_record (put_behind (puts update)) s.next_store s.stores s.documents m st refl found (omega (arith, seq_next))
      (id_below s.next_store at.store s.stores st stands.is_state.ids_drawn found) (λ t same. ap (λ (x : Map). finite.insert x k d) same) refl)

  pub set_stands : RulesStay → PutScans → StandsAt told new (answer s (calls.Set at key meta body)).1
  set_stands rules scans =
      written_stands update rules documents_are numbers_are counted_now (λ j other. count-other s.documents k d j other) live_now (omega arith)
      (unchanged_set s at.store (next_seq s at) key st d stands.unchanged found (omega (arith, seq_next))) (more scans)

-- ---- what a set answers

pub no_refusal : (seq : ℕ) (why : Refusal) → replies.Seq seq ≢ replies.Refused why
no_refusal seq why e = cc

pub set_updates : RulesStay → RecordsKeepHeader → PutsKeep → PutStands → PutScans → (told : Bool) (at : StoreRef) (key meta body : List ℕ) (old new : Moment) (result : Result ℕ Refusal)
    → SetAnswers told at key meta body old new result → (s : State) (f : File) → StandsAt told old s → IsFile told old.held old.file f → UpdatesAs told replies.Seq s f (calls.Set at key meta body) old new result
set_updates rules headers keep lands scans told at key meta body old new result answers s f stands was = answered_as told replies.Seq (calls.Set at key meta body) old new s f stands was no_refusal _ result (step_refused told old.held old.disk old.file s f at key meta body stands was.long) (given result) answers where
  given : (r : Result ℕ Refusal) → first_cause (set_causes old.held at key meta body) ≡ None → SetGives told at key meta body old new r → UpdatesAs told replies.Seq s f (calls.Set at key meta body) old new r
  given (Ok seq) free gives =
      let step = step_answered told old.held old.disk old.file s f at key meta body stands was.long free in
      let next : seq_in old.held.names.rows at.store ≡ seq_of s.stores at.store = seq_is told old.held old.disk old.file s f at key meta body stands was.long in
      let sets : SetsFile told (key_at at.store key) (doc_of (next_seq s at) meta body) old new =
      subst (λ (n : ℕ). SetsFile told (key_at at.store key) (doc_of (n + 1) meta body) old new) next gives.1 in
      let causes = none_holds (set_causes old.held at key meta body) free in
      let gone : is_none (store_of s.stores at.store) ≡ false = sym (gone_is told old.held old.disk old.file s f at key meta body stands was.long) ∙ unmet _ _ causes.1.1.1.0 in
      let there = there_is (store_of s.stores at.store) gone in
      let room : old.held.blocks + blocks_needed old.held key meta body + 2 ≤ old.held.limits.max_blocks = has_room _ _ _ (unmet _ _ causes.1.1.1.1.1.0) in
      let whole = update keep lands told at key meta body old new s f stands was.long there.0 there.1 room step sets in
      done_as told replies.Seq (calls.Set at key meta body) old new s f stands was no_refusal seq (answer s (calls.Set at key meta body)).1 (f ++ bytes_of whole.writes.out)
      (step ∙ ap (λ (n : ℕ). (replies.Seq n, (answer s (calls.Set at key meta body)).1)) (ap (λ n. n + 1) (sym next) ∙ sym gives.0))
      (set_stands keep lands told at key meta body old new s f stands was.long there.0 there.1 room step sets rules scans)
      (written_grows whole (λ adds. adds))
      (written_file whole headers was)
      gives.1.sets.gone
  given (Err why) free gives =
      let step = step_answered told old.held old.disk old.file s f at key meta body stands was.long free in
      failed_as told replies.Seq (calls.Set at key meta body) old new s f stands was no_refusal _ why (ap (λ (o : Outcome). o.0) step) gives
