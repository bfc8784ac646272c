-- The file stands for the state after the removal of a store.
use Rattle.std.proofs.Common.{◌≡◌, ◌≢◌, ℕ, ◌+◌, ◌-◌, ◌/◌, ◌^◌, ◌≤◌, ◌<◌, Bool, true, false, List, [], ◌∷◌, ◌++◌, length, map, Option, Some, None, Ok, Err, refl, sym, ap, subst, ◌∙◌, arith, inr}
use Rattle.std.specs.Prelude.{IsTrue, IfOk, is_none, min, not, ◌||◌, codes, nat_eq, nat_lt, Result}
use Rattle.std.specs.Cmp.Lexicographic.{pointwise}
use Rattle.std.specs.FinMap as finite
use Rattle.std.specs.Option.{option_map, option_map_or}
use Rattle.std.proofs.lemmas.Bool.{true≢false}
use Rattle.block_host.specs.Disk.{Disk}
use Rattle.block_host.specs.declared.block.Block.{Block}
use Rattle.forest_model.specs.Records.{record_bytes}
use Rattle.file_image.specs.Commits.{live_bytes}
use Rattle.forest_model.specs.Blocks.{File}
use Rattle.forest_model.specs.Documents.{Map, without_store}
use Rattle.forest_model.specs.Limits.{is_name, any_worn}
use Rattle.forest_model.specs.Run.{FileAfter}
use Rattle.forest_model.specs.State.{IsState}
use Rattle.forest_model.specs.Stores.{store_named, without}
use Rattle.forest_model.specs.Step.{Outcome, ◌where_holds◌, answer, causes, first_cause, full, record_length, step_of, updated}
use Rattle.forest_model.specs.declared.call.Call.TheVariants as calls
use Rattle.forest_model.specs.declared.call.Reply.TheVariants as replies
use Rattle.forest_model.specs.declared.call.StoreRef.{StoreRef}
use Rattle.forest_model.specs.declared.refusal.Refusal.{Refusal}
use Rattle.forest_model.specs.declared.refusal.Refusal.TheVariants.{ReadOnly, NameForm, NoStore, Worn, FileFull}
use Rattle.forest_model.specs.declared.state.State.{State}
use Rattle.forest_model.specs.declared.state.Store.{Store}
use Rattle.forest_model.specs.declared.stored.Entry.{Entry}
use Rattle.forest_model.specs.declared.stored.Rec.{Rec}
use Rattle.kvs_names.specs.Table as tables
use Rattle.model_laws.specs.Laws.{RulesStay, RecordsKeepHeader}
use Rattle.wal_index.specs.Live.{own_live}
use Rattle.file_parts.specs.Held.{Held}
use Rattle.file_parts.specs.Causes.{blocks_needed}
use Rattle.file_core.specs.Stands.{Stands, AreDocuments, DrawNumbers, row_in}
use Rattle.file_stores.specs.StoreChanges.{id_named, gone_of, remove_causes, RemovesStore, RemoveGives, RemoveAnswers}
use Rattle.file_parts.specs.Moment.{Moment}
use Rattle.file_core.specs.Updates.{StandsAt, IsFile, UpdatesAs, bytes_of}
use Rattle.file_core.proofs.SetCauses.{none_holds, unmet, refused_first, answered_last}
use Rattle.file_core.proofs.SetEntries.{older_len}
use Rattle.file_core.proofs.Puts.{PutsKeep, Puts, puts_of_record, open_short, loose_is, room_left, bytes_are, size_is, put_behind, documents_stay, grows, file_is}
use Rattle.file_core.proofs.RecordedMore.{PutScans, More, told_of, gone_more, recorded_more}
use Rattle.file_core.proofs.RecordedPuts.{grown_more, gone_is_record, found_below}
use Rattle.file_core.proofs.Answered.{there_is, has_room, answered_as, failed_as, done_as}
use Rattle.file_core.proofs.StoreCauses.{id_is}
use Rattle.file_core.proofs.StoreLess.{rows_less, documents_less, numbers_less, unchanged_less, may_go}
use Rattle.file_core.proofs.StoreMade.{some_mapped}
use Rattle.file_core.proofs.StoreSums.{live_without}

-- ---- why it isn't removed

same_none : (o : Option Store) → is_none (option_map (λ st. st.id) o) ≡ is_none o
same_none None = refl
same_none (Some st) = refl

module _ (told : Bool) (p : Held) (disk : Disk) (file : List Block) (s : State) (f : File) (at : StoreRef) (name : List ℕ) (stands : Stands told p disk file s) (is_long : length f ≡ p.blocks) where
  gone_is : is_none (id_named p.names name) ≡ is_none (store_named s.stores name)
  gone_is = ap is_none (id_is told p disk file s f name false stands is_long) ∙ same_none (store_named s.stores name)

  needed_is : blocks_needed p [] [] [] ≡ (s.loose + record_length [] [] []) / 4064
  needed_is = ap (λ n. (n + record_length [] [] []) / 4064) stands.open_block

  causes_are : remove_causes p at name ≡ causes s (calls.StoreRemove at name) ++ full s f (calls.StoreRemove at name) ∷ []
  causes_are = λ i.
      (ReadOnly where_holds at.read_only) ∷ (NameForm where_holds (not (is_name name) || pointwise nat_eq name (codes "default")))
      ∷ (NoStore where_holds gone_is i) ∷ (Worn where_holds any_worn ((stands.place i + 1) ∷ []))
      ∷ (FileFull (sym is_long i) (needed_is i) (stands.limits i).max_blocks where_holds nat_lt (stands.limits i).max_blocks (sym is_long i + needed_is i + 2)) ∷ []

  remove_refused : (why : Refusal) → first_cause (remove_causes p at name) ≡ Some why → step_of s f (calls.StoreRemove at name) ≡ (replies.Refused why, s)
  remove_refused why e =
      refused_first (causes s (calls.StoreRemove at name)) (full s f (calls.StoreRemove at name)) s (answer s (calls.StoreRemove at name)) why (ap first_cause (sym causes_are) ∙ e)

  remove_answered : first_cause (remove_causes p at name) ≡ None → step_of s f (calls.StoreRemove at name) ≡ answer s (calls.StoreRemove at name)
  remove_answered e =
      answered_last (causes s (calls.StoreRemove at name)) (full s f (calls.StoreRemove at name)) s (answer s (calls.StoreRemove at name)) (ap first_cause (sym causes_are) ∙ e)

-- ---- a store that is removed

-- the state without a store
abbrev without_it : State → ℕ → State
without_it s id = record (updated s (record_length [] [] [])) { stores = without s.stores id; documents = without_store s.documents id }

module _ (rules : RulesStay) (keep : PutsKeep) (scans : PutScans) (told : Bool) (at : StoreRef) (name : List ℕ) (old new : Moment) (s : State) (f : File) (stands : StandsAt told old s) (st : Store) (found : store_named s.stores name ≡ Some st) (other : pointwise nat_eq name (codes "default") ≡ false) (room : old.held.blocks + blocks_needed old.held [] [] [] + 2 ≤ old.held.limits.max_blocks) (stepped : step_of s f (calls.StoreRemove at name) ≡ (replies.Removed st.id, without_it s st.id)) (removes : RemovesStore told st.id old new) (small : st.id < 2 ^ 64) where
  abbrev rec : Rec
  rec = gone_of st.id

  abbrev n : ℕ
  n = record_length [] [] []

  abbrev puts : Puts told (record_bytes rec) n old new s
  puts = puts_of_record rec old new s stands removes.puts

  names_are : new.held.names ≡ tables.without old.held.names st.id
  names_are = removes.names (may_go s.documents s.stores old.held.names name st stands.is_state.now stands.rows found other)

  rows_now : new.held.names.rows ≡ map (row_in (without_store s.documents st.id)) (without s.stores st.id)
  rows_now =
      ap (λ (t : tables.Table). t.rows) names_are ∙ ap (λ rows. (tables.without (record { rows = rows; next = 0 }) st.id).rows) stands.rows ∙ rows_less s.documents st.id s.stores

  less : live_bytes (without_store s.documents st.id) + own_live st.id old.held.wal.entries ≡ live_bytes s.documents
  less = live_without st.id old.held.wal.entries s.documents (λ q. older_len told old.held.revision old.file old.held.tail q (finite.get old.held.wal.entries q) (finite.get s.documents q) (stands.documents q))

  live_now : old.held.live - min (own_live st.id old.held.wal.entries) (2 ^ 64 - 1) ≡ live_bytes (without_store s.documents st.id)
  live_now = omega (arith, less, stands.live, stands.within, stands.low, open_short stands)

  more : IsTrue told → More old.held.revision old.held.tail new.held.tail old.file new.file (told_of s) (told_of (without_it s st.id))
  more =
      grown_more puts (told_of s) (told_of (without_it s st.id))
      (gone_more scans rec (gone_is_record st.id small) (put_behind puts) s.next_store s.stores s.documents (without_store s.documents st.id) st.id refl
      (found_below (λ t. pointwise nat_eq t.name name) s.next_store s.stores st stands.is_state.ids_drawn found) (λ t same. ap (λ (m : Map). without_store m st.id) same) refl)

  pub gone_stands : StandsAt told new (without_it s st.id)
  gone_stands = subst (λ (h : Held). Stands told h new.disk new.file (without_it s st.id)) (sym removes.rest) (record {
    running = stands.running;
    shown = λ t. removes.puts.shown t (stands.shown t);
    is_state = subst (λ (o : Outcome). IsState o.1) stepped (rules s f (calls.StoreRemove at name) stands.is_state);
    rows = rows_now;
    next_store = ap (λ (t : tables.Table). t.next) names_are ∙ stands.next_store;
    no_key_root = stands.no_key_root;
    no_seq_root = stands.no_seq_root;
    documents =
        subst (λ (m : finite.FinMap _ Entry). AreDocuments told old.held.revision new.file new.held.tail m (without_store s.documents st.id)) (sym removes.entries)
        (documents_less told old.held.revision new.file new.held.tail old.held.wal.entries s.documents st.id (documents_stay keep puts));
    numbers =
        subst (λ (m : finite.FinMap _ Entry). DrawNumbers m (without s.stores st.id)) (sym removes.entries)
        (numbers_less old.held.wal.entries s.stores st.id stands.numbers);
    live = live_now;
    commit = stands.commit;
    committed = stands.committed;
    kept = stands.kept;
    unchanged = λ before now was is. unchanged_less s st.id stands.unchanged before now was is;
    revision = stands.revision;
    generation = stands.generation;
    place = ap (λ m. m + 1) stands.place;
    next_commit = stands.next_commit;
    next_ticket = stands.next_ticket;
    limits = stands.limits;
    copying = stands.copying;
    loose = loose_is puts;
    open_block = loose_is puts;
    at_end = refl;
    size = λ t. size_is puts t;
    room = inr (room_left puts room);
    low = omega (arith, room_left puts room, stands.most);
    most = stands.most;
    within = omega (arith, live_now, less, stands.live, bytes_are puts, stands.within);
    recorded = λ t. recorded_more old.held _ old.file new.file s (without_it s st.id) stands.rows rows_now refl refl refl refl (more t) (stands.recorded t);
  })

  pub gone_grows : FileAfter s f (Some (calls.StoreRemove at name)) (without_it s st.id) (f ++ bytes_of removes.puts.out)
  gone_grows = grows puts f (calls.StoreRemove at name) (without_it s st.id) refl (λ adds. adds)

  pub gone_file : RecordsKeepHeader → IsFile told old.held old.file f → IsFile told new.held new.file (f ++ bytes_of removes.puts.out)
  gone_file headers was =
      file_is puts headers f was (ap (λ (h : Held). h.header) removes.rest) (ap (λ (h : Held). h.header_at) removes.rest) (ap (λ (h : Held). h.blocks) removes.rest)

-- ---- what a removal answers

no_refusal : (id : ℕ) (why : Refusal) → replies.Removed id ≢ replies.Refused why
no_refusal id why e = cc

or_second : (a b : Bool) → (a || b) ≡ false → b ≡ false
or_second true b e = absurd (true≢false e)
or_second false b e = e

pub remove_updates : RulesStay → RecordsKeepHeader → PutsKeep → PutScans → (told : Bool) (at : StoreRef) (name : List ℕ) (old new : Moment) (result : Result ℕ Refusal) → IfOk result (λ id. id < 2 ^ 64)
    → RemoveAnswers told at name old new result → (s : State) (f : File) → StandsAt told old s → IsFile told old.held old.file f → UpdatesAs told replies.Removed s f (calls.StoreRemove at name) old new result
remove_updates rules headers keep scans told at name old new result ranged answers s f stands was = answered_as told replies.Removed (calls.StoreRemove at name) old new s f stands was no_refusal _ result (remove_refused told old.held old.disk old.file s f at name stands was.long) (given result ranged) answers where
  step : (st : Store) → first_cause (remove_causes old.held at name) ≡ None → store_named s.stores name ≡ Some st → step_of s f (calls.StoreRemove at name) ≡ (replies.Removed st.id, without_it s st.id)
  step st free found =
      remove_answered told old.held old.disk old.file s f at name stands was.long free
      ∙ ap (λ (o : Option Store). option_map_or {U = Outcome} (λ t. (replies.Removed t.id, without_it s t.id)) o (replies.Refused NoStore, s)) found

  given : (r : Result ℕ Refusal) → IfOk r (λ id. id < 2 ^ 64) → first_cause (remove_causes old.held at name) ≡ None → RemoveGives told name old new r → UpdatesAs told replies.Removed s f (calls.StoreRemove at name) old new r
  given (Ok id) ranged free gives =
      let it = some_mapped (store_named s.stores name) id (sym (id_is told old.held old.disk old.file s f name false stands was.long) ∙ gives.0) in
      let removes : RemovesStore told it.0.id old new = subst (λ (m : ℕ). RemovesStore told m old new) (sym it.2) gives.1 in
      let causes = none_holds (remove_causes old.held at name) free in
      let other : pointwise nat_eq name (codes "default") ≡ false = or_second _ _ (unmet _ _ causes.1.0) in
      let room : old.held.blocks + blocks_needed old.held [] [] [] + 2 ≤ old.held.limits.max_blocks = has_room _ _ _ (unmet _ _ causes.1.1.1.1.0) in
      let stepped = step it.0 free it.1 in
      let small : it.0.id < 2 ^ 64 = subst (λ (n : ℕ). n < 2 ^ 64) (sym it.2) ranged in
      done_as told replies.Removed (calls.StoreRemove at name) old new s f stands was no_refusal id (without_it s it.0.id) (f ++ bytes_of removes.puts.out)
      (stepped ∙ ap (λ (m : ℕ). (replies.Removed m, without_it s it.0.id)) it.2)
      (gone_stands rules keep scans told at name old new s f stands it.0 it.1 other room stepped removes small)
      (gone_grows rules keep scans told at name old new s f stands it.0 it.1 other room stepped removes small)
      (gone_file rules keep scans told at name old new s f stands it.0 it.1 other room stepped removes small headers was)
      gives.1.gone
  given (Err why) ranged free gives =
      let causes = none_holds (remove_causes old.held at name) free in
      let it = there_is (store_named s.stores name) (sym (gone_is told old.held old.disk old.file s f at name stands was.long) ∙ unmet _ _ causes.1.1.0) in
      failed_as told replies.Removed (calls.StoreRemove at name) old new s f stands was no_refusal it.0.id why (ap (λ (o : Outcome). o.0) (step it.0 free it.1)) gives
