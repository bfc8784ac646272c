-- What is looked up in a file that stands for a state is what the step answers.
use Rattle.std.proofs.Common.{◌≡◌, ℕ, Bool, true, false, cond, List, [], ◌∷◌, map, refl, sym, ap, ◌∙◌, subst, inl, inr}
use Rattle.std.specs.Prelude.{Option, Some, None, Result, Ok, Err, MatchBool, MatchResult, IfOk, IfErr, is_none, if◌then◌else◌, ◌==◌}
use Rattle.std.specs.Option.{option_map, option_map_or}
use Rattle.std.specs.FinMap as finite
use Rattle.block_host.specs.Disk.{Disk}
use Rattle.block_host.specs.declared.block.Block.{Block}
use Rattle.doc_stream.specs.OpenBlock.{OpenBlock}
use Rattle.forest_model.specs.Documents.{Map, Entry as Row, doc_at, doc_numbered, count_of}
use Rattle.forest_model.specs.Limits.{is_wrong_key}
use Rattle.forest_model.specs.Step.{Outcome, ◌where_holds◌, first_cause, refused_or, ticket_of, found_of, found_at, step_with_room}
use Rattle.forest_model.specs.Stored.{StoreRow}
use Rattle.forest_model.specs.Stores.{store_of}
use Rattle.forest_model.specs.declared.call.Call.TheVariants as Call
use Rattle.forest_model.specs.declared.call.Info.{Info}
use Rattle.forest_model.specs.declared.call.Reply.TheVariants.{Document, InfoIs, Refused}
use Rattle.forest_model.specs.declared.call.StoreRef.{StoreRef}
use Rattle.forest_model.specs.declared.documents.DocKey.{DocKey}
use Rattle.forest_model.specs.declared.documents.Doc.{Doc}
use Rattle.forest_model.specs.declared.refusal.Refusal.{Refusal}
use Rattle.forest_model.specs.declared.refusal.Refusal.TheVariants.{KeyLength, NoStore, NotFound}
use Rattle.forest_model.specs.declared.state.Copying.{Copying}
use Rattle.forest_model.specs.declared.state.State.{State}
use Rattle.forest_model.specs.declared.state.Store.{Store}
use Rattle.forest_model.specs.declared.stored.Entry.{Entry}
use Rattle.kvs_names.specs.Table.{row_with_id}
use Rattle.std.proofs.lemmas.Bool.{eqb-true, eq-eqb}
use Rattle.wal_index.specs.Index.{key_at, entry_at}
use Rattle.file_parts.specs.Held.{Held}
use Rattle.file_parts.specs.Lookup.{stop_of, unless_refused, numbers_in, why_no_store, living, entry_of_key, IsNumbered, NoneLives, ticket_in, info_with, info_in}
use Rattle.file_core.specs.Stands.{row_in, IsKept, HasDocument, Stands}
use Rattle.file_core.proofs.Numbered.{passes, none_numbered, the_numbered}

-- ---- the stores

row_is : (m : Map) (stores : List Store) (id : ℕ) → row_with_id (map (row_in m) stores) id ≡ option_map (row_in m) (store_of stores id)
row_is m [] id = refl
row_is m (s ∷ later) id =
    elim (s.id == id) as (λ b. cond b (Some (row_in m s)) (row_with_id (map (row_in m) later) id) ≡ option_map (row_in m) (cond b (Some s) (store_of later id))) [ true ↦ refl | false ↦ row_is m later id ]

-- the number and the count of documents of a row, and of a store
abbrev row_numbers : StoreRow → ℕ × ℕ
row_numbers r = (r.seq, r.documents)

abbrev pub numbers_of : Map → Store → ℕ × ℕ
numbers_of m s = (s.seq, count_of m s.id)

then_numbers : (m : Map) (o : Option Store) → option_map row_numbers (option_map (row_in m) o) ≡ option_map (numbers_of m) o
then_numbers m None = refl
then_numbers m (Some s) = refl

pub numbers_are : (m : Map) (p : Held) (stores : List Store) (id : ℕ) → p.names.rows ≡ map (row_in m) stores → numbers_in p id ≡ option_map (numbers_of m) (store_of stores id)
numbers_are m p stores id rows =
    ap (λ rs. option_map row_numbers (row_with_id rs id)) rows ∙ ap (option_map row_numbers) (row_is m stores id) ∙ then_numbers m (store_of stores id)

mapped_none : {A B : Type 0} (f : A → B) (o : Option A) → is_none (option_map f o) ≡ is_none o
mapped_none f None = refl
mapped_none f (Some x) = refl

pub same_stores : (m : Map) (p : Held) (stores : List Store) (id : ℕ) → p.names.rows ≡ map (row_in m) stores → is_none (numbers_in p id) ≡ is_none (store_of stores id)
same_stores m p stores id rows = ap is_none (numbers_are m p stores id rows) ∙ mapped_none (numbers_of m) (store_of stores id)

-- ---- a document and its entry

module _ (told : Bool) (revision : ℕ) (file : List Block) (tail : OpenBlock) (k : DocKey) where
  pub document_of : (e : Entry) (o : Option Entry) (doc : Option Doc) → o ≡ Some e → e.live ≡ true → HasDocument told revision file tail k o doc → (d : Doc) × (doc ≡ Some d) × IsKept told revision file tail k e d
  document_of e o doc is lives has =
      subst (λ b. MatchBool b ((d : Doc) × (doc ≡ Some d) × IsKept told revision file tail k e d) (doc ≡ None)) lives (subst (λ x. HasDocument told revision file tail k x doc) is has)

  dead_or_none : (o : Option Entry) (doc : Option Doc) → living o ≡ Err NotFound → HasDocument told revision file tail k o doc → doc ≡ None
  dead_or_none None doc is has = has
  dead_or_none (Some e) doc is has =
      elim e.live as (λ b. (if b then Ok e else Err NotFound) ≡ Err NotFound → MatchBool b ((d : Doc) × (doc ≡ Some d) × IsKept told revision file tail k e d) (doc ≡ None) → doc ≡ None) [
        | true ↦ λ wrong _. cc
        | false ↦ λ _ none. none
      ] is has

  pub entry_of : (o : Option Entry) (doc : Option Doc) (d : Doc) → doc ≡ Some d → HasDocument told revision file tail k o doc → (e : Entry) × (o ≡ Some e) × (e.live ≡ true) × IsKept told revision file tail k e d
  entry_of None doc d is has = cc
  entry_of (Some e) doc d is has =
      elim e.live as (λ b. e.live ≡ b → MatchBool b ((d : Doc) × (doc ≡ Some d) × IsKept told revision file tail k e d) (doc ≡ None)
      → (f : Entry) × (Some e ≡ Some f) × (f.live ≡ true) × IsKept told revision file tail k f d) [
        | true ↦ λ lives kept.
            let some : Some kept.0 ≡ Some d = sym kept.1 ∙ is in
            let same : kept.0 ≡ d = cc in
            (e, refl, lives, subst (λ x. IsKept told revision file tail k e x) same kept.2)
        | false ↦ λ _ none. cc
      ] refl has

-- ---- the step of a read

-- the answer of a read by key, and by number
abbrev by_key : State → List ℕ → Option Doc → Outcome
by_key s key doc = refused_or (first_cause ((NotFound where_holds is_none doc) ∷ [])) s (option_map_or (λ d. found_at key d s) doc (Refused NotFound, s))

abbrev by_number : State → Option Row → Outcome
by_number s row = refused_or (first_cause ((NotFound where_holds is_none row) ∷ [])) s (option_map_or (λ e. found_at e.0.key e.1 s) row (Refused NotFound, s))

-- a read by key where a key is refused, or a store isn't there
abbrev after_key : State → List ℕ → Bool → Bool → Option Doc → Outcome
after_key s key long none doc =
    refused_or (first_cause ((KeyLength where_holds long) ∷ (NoStore where_holds none) ∷ (NotFound where_holds is_none doc) ∷ [])) s
    (option_map_or (λ d. found_at key d s) doc (Refused NotFound, s))

abbrev after_number : State → Bool → Option Row → Outcome
after_number s none row =
    refused_or (first_cause ((NoStore where_holds none) ∷ (NotFound where_holds is_none row) ∷ [])) s (option_map_or (λ e. found_at e.0.key e.1 s) row (Refused NotFound, s))

-- what a look-up by key answers of the step
abbrev pub KeyAnswers : Bool → ℕ → List Block → OpenBlock → DocKey → State → Outcome → Result Entry Refusal → Type 0
KeyAnswers told revision file tail k s outcome result =
    MatchResult result
    (λ e. (d : Doc) × (outcome ≡ (Document (found_of k.key d), s)) × IsKept told revision file tail k e d)
    (λ why. outcome ≡ (Refused why, s))

key_looked_up : (told : Bool) (revision : ℕ) (file : List Block) (tail : OpenBlock) (k : DocKey) (s : State) (o : Option Entry) (doc : Option Doc)
    → HasDocument told revision file tail k o doc → KeyAnswers told revision file tail k s (by_key s k.key doc) (living o)
key_looked_up told revision file tail k s None doc has = ap (by_key s k.key) has
key_looked_up told revision file tail k s (Some e) doc has =
    elim e.live as (λ b. MatchBool b ((d : Doc) × (doc ≡ Some d) × IsKept told revision file tail k e d) (doc ≡ None) → KeyAnswers told revision file tail k s (by_key s k.key doc) (if b then Ok e else Err NotFound)) [
      | true ↦ λ kept. (kept.0, ap (by_key s k.key) kept.1, kept.2)
      | false ↦ λ none. ap (by_key s k.key) none
    ] has

key_cases : (told : Bool) (revision : ℕ) (file : List Block) (tail : OpenBlock) (k : DocKey) (s : State) (stopped : Option ℕ) (long none there : Bool) (o : Option Entry) (doc : Option Doc)
    → stopped ≡ None → none ≡ there → HasDocument told revision file tail k o doc
    → KeyAnswers told revision file tail k s (after_key s k.key long there doc)
    (unless_refused (first_cause (stop_of stopped ∷ (KeyLength where_holds long) ∷ (NoStore where_holds none) ∷ [])) (living o))
key_cases told revision file tail k s (Some n) long none there o doc runs same has = cc
key_cases told revision file tail k s None true none there o doc runs same has = refl
key_cases told revision file tail k s None false true true o doc runs same has = refl
key_cases told revision file tail k s None false true false o doc runs same has = cc
key_cases told revision file tail k s None false false true o doc runs same has = cc
key_cases told revision file tail k s None false false false o doc runs same has = key_looked_up told revision file tail k s o doc has

pub key_answers : (told : Bool) (p : Held) (disk : Disk) (file : List Block) (s : State) (at : StoreRef) (key : List ℕ) → Stands told p disk file s
    → KeyAnswers told p.revision file p.tail (key_at at.store key) s (step_with_room s (Call.Get at key)) (entry_of_key p at key)
key_answers told p disk file s at key stands =
    key_cases told p.revision file p.tail (key_at at.store key) s p.stopped (is_wrong_key key) (is_none (numbers_in p at.store)) (is_none (store_of s.stores at.store))
    (entry_at p.wal.entries at.store key) (doc_at s.documents at.store key) stands.running (same_stores s.documents p s.stores at.store stands.rows) (stands.documents (key_at at.store key))

-- ---- by number

number_cases : (s : State) (stopped : Option ℕ) (none there : Bool) (row : Option Row) (why : Option Refusal) → stopped ≡ None → none ≡ there
    → first_cause (stop_of stopped ∷ (NoStore where_holds none) ∷ []) ≡ why → after_number s there row ≡ refused_or why s (by_number s row)
number_cases s (Some n) none there row why runs same is = cc
number_cases s None true true row why runs same is = ap (λ w. refused_or w s (by_number s row)) is
number_cases s None false false row why runs same is = ap (λ w. refused_or w s (by_number s row)) is
number_cases s None true false row why runs same is = cc
number_cases s None false true row why runs same is = cc

module _ (told : Bool) (p : Held) (disk : Disk) (file : List Block) (s : State) (stands : Stands told p disk file s) (at : StoreRef) (seq : ℕ) where
  number_step : (why : Option Refusal) → why_no_store p at ≡ why → step_with_room s (Call.BySeq at seq) ≡ refused_or why s (by_number s (doc_numbered s.documents at.store seq))
  number_step why is =
      number_cases s p.stopped (is_none (numbers_in p at.store)) (is_none (store_of s.stores at.store)) (doc_numbered s.documents at.store seq) why stands.running
      (same_stores s.documents p s.stores at.store stands.rows) is

  pub number_refused : (why : Refusal) → why_no_store p at ≡ Some why → step_with_room s (Call.BySeq at seq) ≡ (Refused why, s)
  number_refused why is = number_step (Some why) is

  pub number_found : (key : List ℕ) (e : Entry) → why_no_store p at ≡ None → e.live ≡ true → IsNumbered p.wal.entries at.store seq key e
      → (d : Doc) × (step_with_room s (Call.BySeq at seq) ≡ (Document (found_of key d), s)) × IsKept told p.revision file p.tail (key_at at.store key) e d
  number_found key e none lives numbered =
      let k = key_at at.store key in
      let there = document_of told p.revision file p.tail k e (entry_at p.wal.entries at.store key) (doc_at s.documents at.store key) numbered.there lives (stands.documents k) in
      let number : there.0.seq ≡ seq = sym there.2.seq ∙ numbered.number in
      let row : doc_numbered s.documents at.store seq ≡ Some (k, there.0) =
      subst (λ n. doc_numbered s.documents at.store n ≡ Some (k, there.0)) number (the_numbered s.documents stands.is_state.now.apart k there.0 there.1) in
      (there.0, number_step None none ∙ ap (by_number s) row, there.2)

  has_this : (key : List ℕ) (o : Option Entry) (e : Entry) → o ≡ Some e → e.seq ≡ seq → option_map_or (λ x. x.seq == seq) o false ≡ true
  has_this key o e is number = ap (λ x. option_map_or (λ x. x.seq == seq) x false) is ∙ eq-eqb e.seq seq number

  none_lives : NoneLives p.wal.entries at.store seq → (k : DocKey) (d : Doc) → finite.get s.documents k ≡ Some d → k.store ≡ at.store → d.seq ≡ seq → ⊥
  none_lives none k d is store number =
      let q = key_at at.store k.key in
      let k_is : k ≡ q = ap (λ n. key_at n k.key) store in
      let there = entry_of told p.revision file p.tail q (entry_at p.wal.entries at.store k.key) (doc_at s.documents at.store k.key) d (ap (finite.get s.documents) (sym k_is) ∙ is) (stands.documents q) in
      let has = has_this k.key (entry_at p.wal.entries at.store k.key) there.0 there.1 (there.3.seq ∙ number) in
      elim none [
        | inl absent ↦ (let wrong : true ≡ false = sym has ∙ absent k.key in cc)
        | inr other ↦ (
            let has_other = has_this other.0 (entry_at p.wal.entries at.store other.0) other.1 other.2.there other.2.number in
            let key_is : k.key ≡ other.0 = stands.numbers.apart at.store seq k.key other.0 has has_other in
            let some : Some there.0 ≡ Some other.1 = sym there.1 ∙ ap (entry_at p.wal.entries at.store) key_is ∙ other.2.there in
            let same : there.0 ≡ other.1 = cc in
            let wrong : true ≡ false = sym there.2 ∙ ap (λ (e : Entry). e.live) same ∙ other.3 in
            cc
            )
      ]

  pub number_absent : why_no_store p at ≡ None → NoneLives p.wal.entries at.store seq → step_with_room s (Call.BySeq at seq) ≡ (Refused NotFound, s)
  number_absent none lives = number_step None none ∙ ap (by_number s) (none_numbered s.documents at.store seq (none_lives lives))

-- ---- what a store is at

abbrev after_info : State → Map → ℕ → ℕ → ℕ → Option Store → Outcome
after_info s documents id commit ticket store =
    refused_or (first_cause ((NoStore where_holds is_none store) ∷ [])) s
    (InfoIs (record { commit = commit; seq = option_map_or (λ st. st.seq) store 0; documents = count_of documents id; ticket = ticket }), s)

abbrev info_at : State → ℕ → ℕ → ℕ → ℕ → Outcome
info_at s commit seq documents ticket = (InfoIs (record { commit = commit; seq = seq; documents = documents; ticket = ticket }), s)

abbrev pub InfoAnswers : State → Outcome → Result Info Refusal → Type 0
InfoAnswers s outcome result = MatchResult result (λ info. outcome ≡ (InfoIs info, s)) (λ why. outcome ≡ (Refused why, s))

info_cases : (s : State) (p : Held) (id : ℕ) (stopped : Option ℕ) (store : Option Store) → stopped ≡ None → ((st : Store) → store ≡ Some st → st.id ≡ id) → p.header.commit ≡ s.last.number → ticket_in p.copying ≡ ticket_of s
    → InfoAnswers s (after_info s s.documents id s.last.number (ticket_of s) store)
    (unless_refused (stop_of stopped) (option_map_or (λ numbers. Ok (info_with p numbers)) (option_map (numbers_of s.documents) store) (Err NoStore)))
info_cases s p id (Some n) store runs ids commit ticket = cc
info_cases s p id None None runs ids commit ticket = refl
info_cases s p id None (Some st) runs ids commit ticket =
    let documents = count_of s.documents st.id in
    sym (ap (λ c. info_at s c st.seq documents (ticket_in p.copying)) commit ∙ ap (λ n. info_at s s.last.number st.seq (count_of s.documents n) (ticket_in p.copying)) (ids st refl) ∙ ap (info_at s s.last.number st.seq (count_of s.documents id)) ticket)

same_ticket : (o : Option Copying) → ticket_in (option_map (λ c. (c.ticket, c.base)) o) ≡ option_map_or (λ c. c.ticket) o 0
same_ticket None = refl
same_ticket (Some c) = refl

pub info_answers : (told : Bool) (p : Held) (disk : Disk) (file : List Block) (s : State) (at : StoreRef) → Stands told p disk file s → InfoAnswers s (step_with_room s (Call.Info at)) (info_in p at)
info_answers told p disk file s at stands =
    subst (λ ns. InfoAnswers s (step_with_room s (Call.Info at)) (unless_refused (stop_of p.stopped) (option_map_or (λ numbers. Ok (info_with p numbers)) ns (Err NoStore)))) (sym (numbers_are s.documents p s.stores at.store stands.rows))
    (info_cases s p at.store p.stopped (store_of s.stores at.store) stands.running (λ st is. eqb-true st.id at.store (passes (λ st. st.id == at.store) s.stores st is)) stands.commit (ap ticket_in stands.copying ∙ same_ticket s.copying))

pub answered_ok : (s : State) (outcome : Outcome) (result : Result Info Refusal) → InfoAnswers s outcome result → IfOk result (λ info. outcome ≡ (InfoIs info, s))
answered_ok s outcome (Ok info) answers = answers
answered_ok s outcome (Err why) answers = tt

pub answered_err : (s : State) (outcome : Outcome) (result : Result Info Refusal) → InfoAnswers s outcome result → IfErr result (λ why. outcome ≡ (Refused why, s))
answered_err s outcome (Ok info) answers = tt
answered_err s outcome (Err why) answers = answers
