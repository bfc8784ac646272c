-- The file stands for the state after a batch.
use Rattle.std.proofs.Common.{◌≡◌, ℕ, ◌+◌, ◌^◌, ◌≤◌, ◌<◌, Bool, true, false, List, [], ◌∷◌, ◌++◌, length, Option, Some, None, Ok, Err, refl, sym, ap, subst, ◌∙◌, arith}
use Rattle.std.specs.Prelude.{IsTrue, is_none, sum_by, Result, if◌then◌else◌}
use Rattle.std.specs.Option.{option_map_or}
use Rattle.std.specs.FinMap as finite
use Rattle.std.proofs.lemmas.Option.{none-some}
use Rattle.block_host.specs.declared.block.Block.{Block}
use Rattle.doc_stream.specs.OpenBlock.{OpenBlock, PutsBytes}
use Rattle.doc_stream.specs.Reading.{RecordAt}
use Rattle.forest_model.specs.Blocks.{File}
use Rattle.forest_model.specs.Documents.{Map, key_at, doc_of, after_items}
use Rattle.forest_model.specs.Stores.{store_of, seq_of, with_seq}
use Rattle.forest_model.specs.Step.{Outcome, first_cause, item_length, step_of, written}
use Rattle.forest_model.specs.declared.call.Call.TheVariants as calls
use Rattle.forest_model.specs.declared.call.Item.{Item}
use Rattle.forest_model.specs.declared.call.Item.TheVariants.{Put, Del}
use Rattle.forest_model.specs.declared.call.Reply.TheVariants as replies
use Rattle.forest_model.specs.declared.call.StoreRef.{StoreRef}
use Rattle.forest_model.specs.declared.refusal.Refusal.{Refusal}
use Rattle.forest_model.specs.declared.refusal.Refusal.TheVariants.{NotFound}
use Rattle.forest_model.specs.declared.state.State.{State}
use Rattle.forest_model.specs.declared.state.Store.{Store}
use Rattle.forest_model.specs.declared.stored.Rec.{Rec}
use Rattle.kvs_names.specs.Table.{counted}
use Rattle.model_laws.specs.Laws.{RulesStay, RecordsKeepHeader}
use Rattle.wal_index.specs.Index.{Map as Entries}
use Rattle.file_parts.specs.Held.{Held}
use Rattle.file_core.specs.Stands.{AreDocuments, DrawNumbers}
use Rattle.file_parts.specs.Causes.{seq_in}
use Rattle.file_parts.specs.Moment.{Moment}
use Rattle.file_core.specs.Updates.{StandsAt, IsFile, UpdatesAs, bytes_of}
use Rattle.file_documents.specs.Writing.{WritesFile}
use Rattle.file_documents.specs.Batching.{Turn, first_turn, batch_needed, batch_causes, BatchesFile, BatchGives, BatchAnswers}
use Rattle.file_core.proofs.Answered.{there_is, has_room, answered_as, failed_as, done_as}
use Rattle.file_core.proofs.BatchBytes.{PutsJoin, PutsNone, bytes_of_items, length-items, items_joined, each_behind}
use Rattle.file_core.proofs.BatchCauses.{misses_too, batch_refused, batch_answered}
use Rattle.file_core.proofs.BatchTurns.{AtTurn, numbers_raised, each_turn}
use Rattle.file_core.proofs.SetCauses.{none_holds, unmet, gone_is, seq_is, documents_is}
use Rattle.file_core.proofs.SetEntries.{has_more, unchanged_by}
use Rattle.file_core.proofs.Puts.{PutsKeep, PutStands, open_short, is_end}
use Rattle.file_core.proofs.RecordedBatch.{batch_more}
use Rattle.file_core.proofs.RecordedMore.{PutScans, More, told_of}
use Rattle.file_core.proofs.SetStands.{no_refusal}
use Rattle.file_core.proofs.StoreTables.{id_below}
use Rattle.file_core.proofs.Written.{Update, after_update, written_stands, written_grows, written_file}

-- each item draws a number
last_number : (store : ℕ) (items : List Item) (seq : ℕ) (m : Map) (last : ℕ × Map) → after_items store items seq m ≡ Some last → last.0 ≡ seq + length items
last_number store [] seq m last is =
    let same : seq ≡ last.0 = ap {B = ℕ} (λ o. option_map_or (λ (x : ℕ × Map). x.0) o 0) is in
    omega (arith, same)
last_number store (Put key meta body ∷ items) seq m last is =
    let later = last_number store items (seq + 1) (finite.insert m (key_at store key) (doc_of (seq + 1) meta body)) last is in
    omega (arith, later)
last_number store (Del key ∷ items) seq m last is = by (finite.contains_key m (key_at store key)) (last_number store items (seq + 1) (finite.remove m (key_at store key)) last) is where
  by : (b : Bool) → (after_items store items (seq + 1) (finite.remove m (key_at store key)) ≡ Some last → last.0 ≡ seq + 1 + length items)
      → (if b then after_items store items (seq + 1) (finite.remove m (key_at store key)) else None) ≡ Some last → last.0 ≡ seq + length (Del key ∷ items)
  by true later e = omega (arith, later e)
  by false later e = absurd (none-some last e)

-- ---- a batch that is done

module _ (keep : PutsKeep) (lands : PutStands) (joins : PutsJoin) (nones : PutsNone) (told : Bool) (at : StoreRef) (items : List Item) (some : 1 ≤ length items) (old new : Moment) (s : State) (f : File) (stands : StandsAt told old s) (is_long : length f ≡ old.held.blocks) (st : Store) (found : store_of s.stores at.store ≡ Some st) (last : ℕ × Map) (goes : after_items at.store items (seq_of s.stores at.store) s.documents ≡ Some last) (room : old.held.blocks + batch_needed old.held items + 2 ≤ old.held.limits.max_blocks) (stepped : step_of s f (calls.Batch at items) ≡ written s at last.0 last.1 (sum_by item_length items)) (batches : BatchesFile told at.store items old new) where
  abbrev n : ℕ
  n = sum_by item_length items

  abbrev start : Turn
  start = first_turn old.held at.store

  abbrev end : Turn
  end = batches.last

  next : seq_in old.held.names.rows at.store ≡ seq_of s.stores at.store
  next = seq_is told old.held old.disk old.file s f at [] [] [] stands is_long

  seq_next : seq_of s.stores at.store ≡ st.seq
  seq_next = ap (λ (o : Option Store). option_map_or (λ t. t.seq) o 0) found

  low : old.held.live + n < 2 ^ 62
  low = omega (arith, stands.within, room, ap (λ l. l.max_blocks) stands.limits, stands.most, open_short stands)

  at_start : AtTurn told old.held.revision at.store (old.held.live + n) n s.stores s.documents old.file start s.documents
  at_start = record {
    documents = stands.documents;
    numbers = numbers_raised old.held.wal.entries s.stores at.store (seq_in old.held.names.rows at.store) st stands.numbers found (omega (arith, next, seq_next));
    counted = documents_is told old.held old.disk old.file s f at [] [] [] stands is_long st found;
    live = stands.live;
    most = omega (arith, stands.live);
    counts = λ other no. refl;
    others = λ q no. refl;
    at_end = is_end stands;
    short = open_short stands;
  }

  ends : AtTurn told old.held.revision at.store (old.held.live + n) 0 s.stores s.documents (old.file ++ batches.out) end last.1 × (end.seq ≡ last.0)
  ends =
      each_turn keep lands told old.held.revision at.store (old.held.live + n) low s.stores st found s.documents items start end old.file (old.file ++ batches.out) s.documents last
      (ap (λ (q : ℕ). after_items at.store items q s.documents) next ∙ goes) (each_behind old.held.revision at.store items start end old.file batches.out batches.each) at_start

  tail_is : end.tail ≡ new.held.tail
  tail_is = sym (ap (λ (h : Held). h.tail) batches.rest)

  joined : PutsBytes old.held.revision (bytes_of_items at.store (seq_in old.held.names.rows at.store) items) old.held.tail end.tail [] batches.out
  joined = (items_joined joins nones old.held.revision at.store items start end [] batches.out (open_short stands) batches.each).1

  writes : WritesFile told at.store last.0 end.documents end.live (bytes_of_items at.store (seq_in old.held.names.rows at.store) items) old new
  writes = record {
    out = batches.out;
    writes = record {
      put = subst (λ (x : OpenBlock). PutsBytes old.held.revision (bytes_of_items at.store (seq_in old.held.names.rows at.store) items) old.held.tail x [] batches.out) tail_is joined;
      gone = batches.gone;
      rest = batches.rest ∙ (λ i. record old.held {
        blocks = (tail_is i).number;
        names = counted old.held.names at.store (ends.1 i) end.documents;
        wal = new.held.wal;
        tail = tail_is i;
        loose = length (tail_is i).bytes;
        live = end.live;
        place = old.held.place + 1;
      });
    };
    files = batches.files;
    shown = batches.shown;
  }

  pub update : Update told at (calls.Batch at items) n last.0 end.documents end.live (bytes_of_items at.store (seq_in old.held.names.rows at.store) items) last.1 old new s f
  update = record {
    stands = stands;
    room = room;
    long = length-items at.store (seq_in old.held.names.rows at.store) items;
    stepped = ap (λ (o : Outcome). o.1) stepped;
    writes = writes;
  }

  shows : IsTrue told → old.file ++ batches.out ≡ new.file
  shows t = ap (λ bs. bs ++ batches.out) (stands.shown t) ∙ sym (batches.files t) ∙ sym (batches.shown t (stands.shown t))

  stays : IsTrue told → (address : ℕ) (r : Rec) → RecordAt old.held.revision (old.file ++ batches.out) end.tail address r → RecordAt old.held.revision new.file new.held.tail address r
  stays t address r h =
      subst (λ (x : OpenBlock). RecordAt old.held.revision new.file x address r) tail_is (subst (λ (bs : List Block). RecordAt old.held.revision bs end.tail address r) (shows t) h)

  documents_are : AreDocuments told old.held.revision new.file new.held.tail new.held.wal.entries last.1
  documents_are =
      subst (λ (es : Entries). AreDocuments told old.held.revision new.file new.held.tail es last.1) (sym batches.entries)
      (λ q. has_more told old.held.revision (old.file ++ batches.out) new.file end.tail new.held.tail stays q (finite.get end.entries q) (finite.get last.1 q) (ends.0.documents q))

  numbers_are : DrawNumbers new.held.wal.entries (with_seq s.stores at.store last.0)
  numbers_are =
      subst (λ (es : Entries). DrawNumbers es (with_seq s.stores at.store last.0)) (sym batches.entries)
      (subst (λ (q : ℕ). DrawNumbers end.entries (with_seq s.stores at.store q)) ends.1 ends.0.numbers)

  further : st.seq < last.0
  further = omega (arith, last_number at.store items (seq_of s.stores at.store) s.documents last goes, seq_next, some)

  more : PutScans → IsTrue told → More old.held.revision old.held.tail new.held.tail old.file new.file (told_of s) (told_of (after_update s at last.0 last.1 n))
  more scans t =
      subst (λ (x : OpenBlock). More old.held.revision old.held.tail x old.file new.file (told_of s) (told_of (after_update s at last.0 last.1 n))) tail_is
      (subst (λ (bs : List Block). More old.held.revision old.held.tail end.tail old.file bs (told_of s) (told_of (after_update s at last.0 last.1 n))) (shows t)
      (batch_more scans old.held.revision at.store s.next_store (id_below s.next_store at.store s.stores st stands.is_state.ids_drawn found) items start end old.file (old.file ++ batches.out) s.stores st s.documents last some found
      (sym (next ∙ seq_next)) (ap (λ (q : ℕ). after_items at.store items q s.documents) next ∙ goes) (each_behind old.held.revision at.store items start end old.file batches.out batches.each)))

  pub batch_stands : RulesStay → PutScans → StandsAt told new (after_update s at last.0 last.1 n)
  batch_stands rules scans =
      written_stands update rules documents_are numbers_are ends.0.counted ends.0.counts ends.0.live (omega (arith, ends.0.live, ends.0.most))
      (unchanged_by s at.store last.0 st last.1 ends.0.others stands.unchanged found further) (more scans)

-- ---- what a batch answers

pub batch_updates : RulesStay → RecordsKeepHeader → PutsKeep → PutStands → PutsJoin → PutsNone → PutScans → (told : Bool) (at : StoreRef) (items : List Item) → 1 ≤ length items → (old new : Moment) (result : Result ℕ Refusal)
    → BatchAnswers told at items old new result → (s : State) (f : File) → StandsAt told old s → IsFile told old.held old.file f → UpdatesAs told replies.Seq s f (calls.Batch at items) old new result
batch_updates rules headers keep lands joins nones scans told at items some old new result answers s f stands was = answered_as told replies.Seq (calls.Batch at items) old new s f stands was no_refusal _ result (batch_refused told old.held old.disk old.file s f at items stands was.long) (given result) answers where
  -- what the step leaves where nothing is against it
  goes_on : first_cause (batch_causes old.held at items) ≡ None → (last : ℕ × Map) × (after_items at.store items (seq_of s.stores at.store) s.documents ≡ Some last)
  goes_on free =
      let causes = none_holds (batch_causes old.held at items) free in
      there_is _ (sym (misses_too told old.held old.disk old.file s f at items stands was.long) ∙ unmet _ _ causes.1.1.1.1.1.0)

  step_is : (free : first_cause (batch_causes old.held at items) ≡ None) → step_of s f (calls.Batch at items) ≡ written s at (goes_on free).0.0 (goes_on free).0.1 (sum_by item_length items)
  step_is free =
      batch_answered told old.held old.disk old.file s f at items stands was.long free
      ∙ ap (λ (o : Option (ℕ × Map)). option_map_or (λ after. written s at after.0 after.1 (sum_by item_length items)) o (replies.Refused NotFound, s)) (goes_on free).1

  given : (r : Result ℕ Refusal) → first_cause (batch_causes old.held at items) ≡ None → BatchGives told at items old new r → UpdatesAs told replies.Seq s f (calls.Batch at items) old new r
  given (Ok seq) free gives =
      let last = (goes_on free).0 in
      let goes = (goes_on free).1 in
      let step = step_is free in
      let next : seq_in old.held.names.rows at.store ≡ seq_of s.stores at.store = seq_is told old.held old.disk old.file s f at [] [] [] stands was.long in
      let number : last.0 ≡ seq = last_number at.store items (seq_of s.stores at.store) s.documents last goes ∙ ap (λ n. n + length items) (sym next) ∙ sym gives.0 in
      let causes = none_holds (batch_causes old.held at items) free in
      let gone : is_none (store_of s.stores at.store) ≡ false = sym (gone_is told old.held old.disk old.file s f at [] [] [] stands was.long) ∙ unmet _ _ causes.1.1.1.0 in
      let there = there_is (store_of s.stores at.store) gone in
      let room : old.held.blocks + batch_needed old.held items + 2 ≤ old.held.limits.max_blocks = has_room _ _ _ (unmet _ _ causes.1.1.1.1.1.1.0) in
      let whole = update keep lands joins nones told at items some old new s f stands was.long there.0 there.1 last goes room step gives.1 in
      done_as told replies.Seq (calls.Batch at items) old new s f stands was no_refusal seq (after_update s at last.0 last.1 (sum_by item_length items)) (f ++ bytes_of whole.writes.out)
      (step ∙ ap (λ (n : ℕ). (replies.Seq n, after_update s at last.0 last.1 (sum_by item_length items))) number)
      (batch_stands keep lands joins nones told at items some old new s f stands was.long there.0 there.1 last goes room step gives.1 rules scans)
      (written_grows whole (λ adds. adds))
      (written_file whole headers was)
      gives.1.gone
  given (Err why) free gives = failed_as told replies.Seq (calls.Batch at items) old new s f stands was no_refusal _ why (ap (λ (o : Outcome). o.0) (step_is free)) gives
