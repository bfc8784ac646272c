-- The file stands for the state after the opening of a store.
use Rattle.std.proofs.Common.{◌≡◌, ◌≢◌, ℕ, ◌+◌, ◌/◌, ◌≤◌, Bool, false, List, [], ◌∷◌, ◌++◌, map, Option, Some, None, Ok, Err, refl, sym, ap, subst, ◌∙◌, arith, inr}
use Rattle.std.specs.Prelude.{IsTrue, is_none, MatchBool, MatchOption, MatchResult, Result, if◌then◌else◌}
use Rattle.std.specs.Option.{option_map, option_map_or}
use Rattle.std.proofs.lemmas.Bool.{ne_eqb}
use Rattle.std.proofs.lemmas.Option.{none-some, same_Some}
use Rattle.forest_model.specs.Records.{record_bytes, is_record}
use Rattle.forest_model.specs.Blocks.{File}
use Rattle.forest_model.specs.Run.{FileAfter, Grows, AddsRecords}
use Rattle.forest_model.specs.Documents.{Map}
use Rattle.forest_model.specs.State.{IsState}
use Rattle.forest_model.specs.Stores.{store_named, new_store}
use Rattle.forest_model.specs.Step.{Outcome, first_cause, record_length, step_of, updated}
use Rattle.forest_model.specs.declared.call.Call.TheVariants as calls
use Rattle.forest_model.specs.declared.call.Reply.TheVariants as replies
use Rattle.forest_model.specs.declared.call.StoreRef.{StoreRef}
use Rattle.forest_model.specs.declared.refusal.Refusal.{Refusal}
use Rattle.forest_model.specs.declared.state.State.{State}
use Rattle.forest_model.specs.declared.state.Store.{Store}
use Rattle.forest_model.specs.declared.stored.Rec.{Rec}
use Rattle.model_laws.specs.Laws.{RulesStay, RecordsKeepHeader}
use Rattle.file_parts.specs.Held.{Held}
use Rattle.file_parts.specs.Causes.{blocks_needed, OnlyMemory}
use Rattle.file_core.specs.Stands.{Stands, row_in}
use Rattle.file_stores.specs.StoreChanges.{id_named, make_causes, open_causes, new_of, MakesStore, OpenGives, OpenAnswers}
use Rattle.file_parts.specs.Moment.{Moment}
use Rattle.file_parts.specs.Records.{NotPut}
use Rattle.file_core.specs.Updates.{StandsAt, IsFile, UpdatesAs, bytes_of}
use Rattle.file_core.proofs.SetCauses.{none_holds, unmet}
use Rattle.file_core.proofs.Puts.{PutsKeep, Puts, puts_of_record, loose_is, room_left, bytes_are, size_is, put_behind, documents_stay, grows, file_is}
use Rattle.file_core.proofs.RecordedMore.{PutScans, More, told_of, made_more, recorded_more}
use Rattle.file_core.proofs.RecordedPuts.{grown_more, new_is_record}
use Rattle.file_core.proofs.Answered.{kept_stands, kept_file, has_room, answered_as, failed_as, done_as}
use Rattle.file_core.proofs.StoreTables.{rows_added, none_of_next, numbers_added, unchanged_added}
use Rattle.file_core.proofs.StoreCauses.{id_is, open_refused, open_answered}

-- the outcome of a store that is made
abbrev with_store : State → List ℕ → State
with_store s name = record (updated s (record_length name [] [])) { stores = s.stores ++ new_store s.next_store name ∷ []; next_store = s.next_store + 1 }

module _ (rules : RulesStay) (keep : PutsKeep) (scans : PutScans) (told : Bool) (name : List ℕ) (read_only : Bool) (old new : Moment) (s : State) (f : File) (stands : StandsAt told old s) (absent : store_named s.stores name ≡ None) (room : old.held.blocks + blocks_needed old.held name [] [] + 2 ≤ old.held.limits.max_blocks) (stepped : step_of s f (calls.StoreOpen name read_only) ≡ (replies.Store (record { store = s.next_store; read_only = false }), with_store s name)) (makes : MakesStore told name old new) (is : IsTrue (is_record (new_of old.held.names.next name))) where
  abbrev rec : Rec
  rec = new_of old.held.names.next name

  abbrev n : ℕ
  n = record_length name [] []

  abbrev puts : Puts told (record_bytes rec) n old new s
  puts = puts_of_record rec old new s stands makes.puts

  rows_now : old.held.names.rows ++ record { id = old.held.names.next; name = name; seq = 0; documents = 0 } ∷ [] ≡ map (row_in s.documents) (s.stores ++ new_store s.next_store name ∷ [])
  rows_now =
      (λ i. stands.rows i ++ record { id = stands.next_store i; name = name; seq = 0; documents = 0 } ∷ [])
      ∙ rows_added s.documents s.stores s.next_store name (none_of_next s stands.is_state)

  more : IsTrue told → More old.held.revision old.held.tail new.held.tail old.file new.file (told_of s) (told_of (with_store s name))
  more =
      grown_more puts (told_of s) (told_of (with_store s name))
      (made_more scans rec is (put_behind puts) s.next_store s.stores s.documents name refl stands.next_store (λ t same. same)
      (ap {B = List Store × Map} (λ (id : ℕ). (s.stores ++ new_store id name ∷ [], s.documents)) stands.next_store))

  pub made_stands : StandsAt told new (with_store s name)
  made_stands = subst (λ (h : Held). Stands told h new.disk new.file (with_store s name)) (sym makes.rest) (record {
    running = stands.running;
    shown = λ t. makes.puts.shown t (stands.shown t);
    is_state = subst (λ (o : Outcome). IsState o.1) stepped (rules s f (calls.StoreOpen name read_only) stands.is_state);
    rows = rows_now;
    next_store = ap (λ m. m + 1) stands.next_store;
    no_key_root = stands.no_key_root;
    no_seq_root = stands.no_seq_root;
    documents = documents_stay keep puts;
    numbers = numbers_added old.held.wal.entries s.stores (new_store s.next_store name) stands.numbers;
    live = stands.live;
    commit = stands.commit;
    committed = stands.committed;
    kept = stands.kept;
    unchanged = λ before now was is. unchanged_added s name stands.is_state stands.unchanged before now was is;
    revision = stands.revision;
    generation = stands.generation;
    place = ap (λ m. m + 1) stands.place;
    next_commit = stands.next_commit;
    next_ticket = stands.next_ticket;
    limits = stands.limits;
    copying = stands.copying;
    loose = loose_is puts;
    open_block = loose_is puts;
    at_end = refl;
    size = λ t. size_is puts t;
    room = inr (room_left puts room);
    low = omega (arith, room_left puts room, stands.most);
    most = stands.most;
    within = omega (arith, bytes_are puts, stands.within);
    recorded = λ t. recorded_more old.held _ old.file new.file s (with_store s name) stands.rows rows_now refl refl refl refl (more t) (stands.recorded t);
  })

  pub made_grows : FileAfter s f (Some (calls.StoreOpen name read_only)) (with_store s name) (f ++ bytes_of makes.puts.out)
  made_grows =
      grows puts f (calls.StoreOpen name read_only) (with_store s name) refl
      (subst (λ (o : Option Store). MatchOption (if is_none o then Some ((s.loose + n) / 4064) else None) (f ++ bytes_of makes.puts.out ≡ f) (λ m. AddsRecords m f (f ++ bytes_of makes.puts.out))) (sym absent))

  pub made_file : RecordsKeepHeader → IsFile told old.held old.file f → IsFile told new.held new.file (f ++ bytes_of makes.puts.out)
  made_file headers was =
      file_is puts headers f was (ap (λ (h : Held). h.header) makes.rest) (ap (λ (h : Held). h.header_at) makes.rest) (ap (λ (h : Held). h.blocks) makes.rest)

-- ---- what an opening answers

none_mapped : (o : Option Store) → option_map (λ st. st.id) o ≡ None → o ≡ None
none_mapped None e = refl
none_mapped (Some st) e = absurd (none-some st.id (sym e))

pub some_mapped : (o : Option Store) (id : ℕ) → option_map (λ st. st.id) o ≡ Some id → (st : Store) × (o ≡ Some st) × (st.id ≡ id)
some_mapped None id e = absurd (none-some id e)
some_mapped (Some st) id e = (st, refl, same_Some st.id id e)

no_refusal : (at : StoreRef) (why : Refusal) → replies.Store at ≢ replies.Refused why
no_refusal at why e = cc

pub open_updates : RulesStay → RecordsKeepHeader → PutsKeep → PutScans → (told : Bool) (name : List ℕ) (read_only : Bool) (old new : Moment) (result : Result StoreRef Refusal)
    → OpenAnswers told name read_only old new result → (s : State) (f : File) → StandsAt told old s → IsFile told old.held old.file f → UpdatesAs told replies.Store s f (calls.StoreOpen name read_only) old new result
open_updates rules headers keep scans told name read_only old new result answers s f stands was = answered_as told replies.Store (calls.StoreOpen name read_only) old new s f stands was no_refusal _ result (open_refused told old.held old.disk old.file s f name read_only stands was.long) (by_id (id_named old.held.names name) refl) answers where
  -- it is there
  there : (id : ℕ) → first_cause (open_causes old.held name read_only) ≡ None → id_named old.held.names name ≡ Some id → result ≡ Ok (record { store = id; read_only = read_only }) → OnlyMemory old new
      → UpdatesAs told replies.Store s f (calls.StoreOpen name read_only) old new result
  there id free named is same =
      let found = some_mapped (store_named s.stores name) id (sym (id_is told old.held old.disk old.file s f name read_only stands was.long) ∙ named) in
      let step : step_of s f (calls.StoreOpen name read_only) ≡ (replies.Store (record { store = id; read_only = read_only }), s) =
      open_answered told old.held old.disk old.file s f name read_only stands was.long free
      ∙ ap (λ (o : Option Store). option_map_or {U = Outcome} (λ st. (replies.Store (record { store = st.id; read_only = read_only }), s)) o (replies.Store (record { store = s.next_store; read_only = false }), with_store s name)) found.1
      ∙ ap (λ (m : ℕ). (replies.Store (record { store = m; read_only = read_only }), s)) found.2 in
      subst (λ (r : Result StoreRef Refusal). UpdatesAs told replies.Store s f (calls.StoreOpen name read_only) old new r) (sym is)
      (done_as told replies.Store (calls.StoreOpen name read_only) old new s f stands was no_refusal (record { store = id; read_only = read_only }) s f step
      (kept_stands told old new s stands same)
      (subst (λ (b : Bool). MatchBool b (Grows s f (calls.StoreOpen name read_only) f) (f ≡ f)) (sym (ne_eqb s.place (s.place + 1) (λ e. absurd (omega (arith, e))))) refl)
      (kept_file told old new f was same)
      same.gone)

  -- it is made
  made : (r : Result StoreRef Refusal) → first_cause (open_causes old.held name read_only) ≡ None → id_named old.held.names name ≡ None
      → MatchResult r (λ at. (at ≡ record { store = old.held.names.next; read_only = false }) × MakesStore told name old new) (NotPut old new) → UpdatesAs told replies.Store s f (calls.StoreOpen name read_only) old new r
  made r free named gives = give r gives where
    absent : store_named s.stores name ≡ None
    absent = none_mapped (store_named s.stores name) (sym (id_is told old.held old.disk old.file s f name read_only stands was.long) ∙ named)

    step : step_of s f (calls.StoreOpen name read_only) ≡ (replies.Store (record { store = s.next_store; read_only = false }), with_store s name)
    step =
        open_answered told old.held old.disk old.file s f name read_only stands was.long free
        ∙ ap (λ (o : Option Store). option_map_or {U = Outcome} (λ st. (replies.Store (record { store = st.id; read_only = read_only }), s)) o (replies.Store (record { store = s.next_store; read_only = false }), with_store s name)) absent

    may : first_cause (make_causes old.held name read_only) ≡ None
    may = sym (ap (λ (o : Option ℕ). option_map_or (λ id. None) o (first_cause (make_causes old.held name read_only))) named) ∙ (none_holds (open_causes old.held name read_only) free).1.0

    room : old.held.blocks + blocks_needed old.held name [] [] + 2 ≤ old.held.limits.max_blocks
    room = has_room _ _ _ (unmet _ _ (none_holds (make_causes old.held name read_only) may).1.1.1.0)

    is : IsTrue (is_record (new_of old.held.names.next name))
    is = new_is_record old.held.names.next (old.held.place + 1) name (unmet _ _ (none_holds (open_causes old.held name read_only) free).0) (unmet _ _ (none_holds (make_causes old.held name read_only) may).1.0)

    give : (r : Result StoreRef Refusal) → MatchResult r (λ at. (at ≡ record { store = old.held.names.next; read_only = false }) × MakesStore told name old new) (NotPut old new) → UpdatesAs told replies.Store s f (calls.StoreOpen name read_only) old new r
    give (Ok at) gives =
        done_as told replies.Store (calls.StoreOpen name read_only) old new s f stands was no_refusal at (with_store s name) (f ++ bytes_of gives.1.puts.out)
        (step ∙ ap (λ (x : StoreRef). (replies.Store x, with_store s name)) (ap (λ (m : ℕ). record { store = m; read_only = false }) (sym stands.next_store) ∙ sym gives.0))
        (made_stands rules keep scans told name read_only old new s f stands absent room step gives.1 is)
        (made_grows rules keep scans told name read_only old new s f stands absent room step gives.1 is)
        (made_file rules keep scans told name read_only old new s f stands absent room step gives.1 is headers was)
        (ap (λ (h : Held). h.wal.gone) gives.1.rest)
    give (Err why) gives = failed_as told replies.Store (calls.StoreOpen name read_only) old new s f stands was no_refusal _ why (ap (λ (o : Outcome). o.0) step) gives

  by_id : (id : Option ℕ) → id_named old.held.names name ≡ id → first_cause (open_causes old.held name read_only) ≡ None → OpenGives told name read_only old new id result
      → UpdatesAs told replies.Store s f (calls.StoreOpen name read_only) old new result
  by_id None named free gives = made result free named gives
  by_id (Some id) named free gives = there id free named gives.0 gives.1
