-- The file stands for the state after a commit.
use Rattle.std.proofs.Common.{◌≡◌, ℕ, ◌+◌, ◌*◌, ◌≤◌, ◌<◌, Bool, true, false, List, [], ◌∷◌, ◌++◌, length, Option, Some, None, refl, sym, ap, subst, ◌∙◌, arith, inl, inr, length-append}
use Rattle.std.specs.Prelude.{◌==◌, ◌⊎◌, IsTrue, MatchBool, if◌then◌else◌}
use Rattle.std.specs.Option.{option_map_or}
use Rattle.std.specs.FinMap as finite
use Rattle.std.proofs.lemmas.Bool.{eq-eqb}
use Rattle.std.proofs.lemmas.Bool.Decides.{nat_tests}
use Rattle.block_host.specs.Sealed.{IsSealed}
use Rattle.block_host.specs.declared.block.Block.{Block}
use Rattle.doc_stream.specs.OpenBlock.{OpenBlock}
use Rattle.doc_stream.specs.Reading.{RecordAt}
use Rattle.doc_stream.specs.Scanned.{IsScanned}
use Rattle.forest_model.specs.Blocks.{File, last_header}
use Rattle.forest_model.specs.Documents.{Map, doc_at}
use Rattle.forest_model.specs.Run.{FileAfter, AddsCommit, Grows, link_to, unflushed_from}
use Rattle.forest_model.specs.State.{IsState, nothing_new}
use Rattle.forest_model.specs.Step.{Outcome, committed, step_of}
use Rattle.forest_model.specs.Stores.{store_of}
use Rattle.forest_model.specs.declared.call.Call.TheVariants as calls
use Rattle.forest_model.specs.declared.call.StoreRef.{StoreRef}
use Rattle.forest_model.specs.declared.call.Reply.TheVariants as replies
use Rattle.forest_model.specs.declared.documents.DocKey.{DocKey}
use Rattle.forest_model.specs.declared.documents.Doc.{Doc}
use Rattle.forest_model.specs.declared.state.State.{State}
use Rattle.forest_model.specs.declared.state.Store.{Store}
use Rattle.forest_model.specs.declared.stored.Entry.{Entry}
use Rattle.forest_model.specs.declared.stored.Header.{Header}
use Rattle.forest_model.specs.declared.stored.Rec.{Rec}
use Rattle.header_block.specs.Layout.{header_bytes}
use Rattle.model_laws.specs.Laws.{RulesStay, NothingNewMeans}
use Rattle.file_parts.specs.Held.{Held}
use Rattle.file_core.specs.Recorded.{IsRecorded}
use Rattle.file_core.specs.Stands.{Stands, AreDocuments, HasDocument, IsKept, SameAtSameNumber}
use Rattle.file_documents.specs.Setting.{put_of}
use Rattle.file_parts.specs.Moment.{Moment}
use Rattle.file_core.specs.Updates.{StandsAt, IsFile, PutsHeader, bytes_of, header_of, IsOpenBlock, listed}
use Rattle.file_commit.specs.Committing.{CommitsFile, header_after, held_after}
use Rattle.file_commit.proofs.Recorded.{PadScans, PassScans, commit_scanned, none_behind}
use Rattle.file_commit.proofs.Grown.{length-bytes_of, bytes-append, open_records, open_whole, open_count, Grown, grown_is, adds}

-- ---- what the crate of records promises

abbrev pub PadsKeep : Type 0
PadsKeep = (revision : ℕ) (before : OpenBlock) (file : List Block) (block : Block) (address : ℕ) (r : Rec) → before.number ≡ length file → IsSealed revision before.number 1 before.bytes block
    → RecordAt revision file before address r → RecordAt revision (file ++ block ∷ []) (record { number = before.number + 1; bytes = [] }) address r

abbrev pub BlocksKeep : Type 0
BlocksKeep = (revision : ℕ) (before after : OpenBlock) (file more : List Block) (address : ℕ) (r : Rec) → before.number ≡ length file → before.bytes ≡ [] → length file ≤ after.number
    → RecordAt revision file before address r → RecordAt revision (file ++ more) after address r

-- a record stays where it stands
record_stays : PadsKeep → BlocksKeep → (revision : ℕ) (tail : OpenBlock) (file : List Block) (block : Option Block) (header : Block) (address : ℕ) (r : Rec) → tail.number ≡ length file → IsOpenBlock revision tail block
    → RecordAt revision file tail address r
    → RecordAt revision (file ++ listed block ++ header ∷ []) (record { number = tail.number + length (listed block) + 1; bytes = [] }) address r
record_stays pads blocks revision tail file None header address r end_at is_open stands =
    subst (λ (bs : List Block). RecordAt revision (bs ++ header ∷ []) (record { number = tail.number + 0 + 1; bytes = [] }) address r) (sym (append-none file))
    (blocks revision tail (record { number = tail.number + 0 + 1; bytes = [] }) file (header ∷ []) address r end_at is_open (omega (arith, end_at)) stands)
  where
    append-none : (bs : List Block) → bs ++ [] ≡ bs
    append-none [] = refl
    append-none (b ∷ bs) = ap (λ cs. b ∷ cs) (append-none bs)
record_stays pads blocks revision tail file (Some block) header address r end_at is_open stands =
    blocks revision (record { number = tail.number + 1; bytes = [] }) (record { number = tail.number + 1 + 1; bytes = [] }) (file ++ block ∷ []) (header ∷ []) address r
    (omega (arith, end_at, length-append file (block ∷ []))) refl (omega (arith, end_at, length-append file (block ∷ [])))
    (pads revision tail file block address r end_at is_open.1 stands)

-- documents stay where their records do
module _ (told : Bool) (revision : ℕ) (file grown : List Block) (tail after : OpenBlock) (keeps : IsTrue told → (address : ℕ) (r : Rec) → RecordAt revision file tail address r → RecordAt revision grown after address r) where
  document_stays : (k : DocKey) (o : Option Entry) (doc : Option Doc) → HasDocument told revision file tail k o doc → HasDocument told revision grown after k o doc
  document_stays k None doc has = has
  document_stays k (Some e) doc has = by e.live has where
    by : (b : Bool) → MatchBool b ((d : Doc) × (doc ≡ Some d) × IsKept told revision file tail k e d) (doc ≡ None) → MatchBool b ((d : Doc) × (doc ≡ Some d) × IsKept told revision grown after k e d) (doc ≡ None)
    by true h = (h.0, h.1, record { seq = h.2.seq; len = h.2.len; there = λ t. keeps t e.address (put_of k h.0) (h.2.there t) })
    by false h = h

-- a store of the last commit is as it was
unchanged_then : (s : State) → s.last.stores ≡ s.stores → s.last.documents ≡ s.documents → SameAtSameNumber s
unchanged_then s stores documents before now was is =
    let same : Some before ≡ Some now = sym was ∙ ap (λ (xs : List Store). store_of xs now.id) stores ∙ is in
    let seq : before.seq ≡ now.seq = ap (λ (o : Option Store). option_map_or (λ st. st.seq) o 0) same in
    (omega (arith, seq), λ _ key. ap (λ (m : Map). doc_at m now.id key) (sym documents))

at_most_one : (n : ℕ) → (if n == 0 then 0 else 1) ≤ 1
at_most_one n = by (n == 0) where
  by : (b : Bool) → (if b then 0 else 1) ≤ 1
  by true = omega arith
  by false = omega arith

-- the bytes of an open block lie in the block that it makes
enough : (n : ℕ) → n < 4064 → n ≤ (if n == 0 then 0 else 1) * 4064
enough n small = grind (arith, nat_tests)

none_left : (b : Bool) (n m : ℕ) → b ≡ false → IsTrue b ⊎ (n ≤ m) → n ≤ m
none_left false n m e (inr le) = le
none_left false n m e (inl wrong) = absurd (cc)
none_left true n m e which = absurd (cc)

-- ---- a commit that is done

module _ (rules : RulesStay) (means : NothingNewMeans) (pads : PadsKeep) (blocks : BlocksKeep) (pad_scans : PadScans) (pass_scans : PassScans) (told : Bool) (at : StoreRef) (old new : Moment) (s : State) (f : File) (stands : StandsAt told old s) (was : IsFile told old.held old.file f) (news : nothing_new s ≡ false) (stepped : step_of s f (calls.Commit at) ≡ (replies.Committed s.next_commit, committed s)) (commits : CommitsFile told old new) where
  abbrev records : List Block
  records = listed commits.block

  abbrev end_at : ℕ
  end_at = old.held.tail.number + length records

  count : length records ≡ (if length old.held.tail.bytes == 0 then 0 else 1)
  count = open_count old.held.revision old.held.tail commits.block commits.open_block

  room : old.held.blocks + 2 ≤ s.limits.max_blocks
  room = none_left (nothing_new s) (old.held.blocks + 2) s.limits.max_blocks news stands.room

  open_short : length old.held.tail.bytes < 4064
  open_short = let h = stands.is_state.open_block in omega (arith, stands.open_block, h)

  few : length records ≤ 1
  few = subst (λ (n : ℕ). n ≤ 1) (sym count) (at_most_one (length old.held.tail.bytes))

  put : length old.held.tail.bytes ≤ length records * 4064
  put = subst (λ (n : ℕ). length old.held.tail.bytes ≤ n * 4064) (sym count) (enough (length old.held.tail.bytes) open_short)

  is_end : IsTrue told → old.held.tail.number ≡ length old.file
  is_end t = stands.at_end ∙ sym (stands.size t)

  grown : IsTrue told → new.file ≡ old.file ++ records ++ commits.header ∷ []
  grown t = commits.shown t ∙ commits.files t ∙ ap (λ (bs : List Block). bs ++ records ++ commits.header ∷ []) (sym (stands.shown t))

  keeps : IsTrue told → (address : ℕ) (r : Rec) → RecordAt old.held.revision old.file old.held.tail address r → RecordAt old.held.revision new.file (record { number = end_at + 1; bytes = [] }) address r
  keeps t address r h =
      subst (λ (bs : List Block). RecordAt old.held.revision bs (record { number = end_at + 1; bytes = [] }) address r) (sym (grown t))
      (record_stays pads blocks old.held.revision old.held.tail old.file commits.block commits.header address r (is_end t) commits.open_block h)

  documents_are : AreDocuments told old.held.revision new.file (record { number = end_at + 1; bytes = [] }) old.held.wal.entries s.documents
  documents_are k =
      document_stays told old.held.revision old.file new.file old.held.tail (record { number = end_at + 1; bytes = [] }) keeps k (finite.get old.held.wal.entries k) (finite.get s.documents k) (stands.documents k)

  size_now : IsTrue told → length new.file ≡ end_at + 1
  size_now t = omega (arith, ap length (grown t), length-append (old.file ++ records) (commits.header ∷ []), length-append old.file records, is_end t)

  -- those from `wal_from` on are as before, and none is behind the new header
  recorded_now : IsTrue told → IsRecorded (held_after old.held end_at) new.file (committed s)
  recorded_now t =
      let was = stands.recorded t in
      record {
        records = was.records;
        scanned =
            subst (λ (bs : List Block). IsScanned old.held.revision bs (record { number = end_at + 1; bytes = [] }) old.held.header.wal_from was.records) (sym (grown t))
            (commit_scanned pad_scans pass_scans old.held.revision old.file old.held.tail old.held.header.wal_from was.records commits.block commits.header (header_bytes (header_after old.held)) commits.open_block commits.is_sealed was.scanned);
        made = was.made;
        recent = [];
        behind = none_behind old.held.revision new.file (record { number = end_at + 1; bytes = [] }) (end_at + 1) refl (sym (size_now t)) (sym (size_now t));
        folded = refl;
      }

  pub commit_stands : StandsAt told new (committed s)
  commit_stands = subst (λ (h : Held). Stands told h new.disk new.file (committed s)) (sym commits.held) (record {
    running = stands.running;
    shown = commits.shown;
    is_state = subst (λ (o : Outcome). IsState o.1) stepped (rules s f (calls.Commit at) stands.is_state);
    rows = stands.rows;
    next_store = stands.next_store;
    no_key_root = stands.no_key_root;
    no_seq_root = stands.no_seq_root;
    documents = documents_are;
    numbers = stands.numbers;
    live = stands.live;
    commit = stands.next_commit;
    committed = stands.rows;
    kept = stands.next_store;
    unchanged = unchanged_then (committed s) refl refl;
    revision = stands.revision;
    generation = stands.generation;
    place = ap (λ n. n + 1) stands.place;
    next_commit = ap (λ n. n + 1) stands.next_commit;
    next_ticket = stands.next_ticket;
    limits = stands.limits;
    most = stands.most;
    copying = stands.copying;
    loose = refl;
    open_block = refl;
    at_end = refl;
    size = size_now;
    room = inl ((means (committed s)).1 (refl, refl));
    low = omega (arith, few, room, stands.at_end, stands.most);
    within = omega (arith, stands.within, stands.at_end, put, few);
    recorded = recorded_now;
  })

  -- ---- the blocks of the file

  abbrev pub file_after : File
  file_after = f ++ bytes_of records ++ commits.header.bytes ∷ []

  last : Grown f (bytes_of records) commits.header.bytes file_after
  last = grown_is f (bytes_of records) commits.header.bytes commits.tells.kind

  pub commit_adds : AddsCommit s f file_after
  commit_adds =
      adds s f (bytes_of records) (header_after old.held) commits.header.bytes
      (record {
        count = length-bytes_of records ∙ count ∙ ap (λ n. if n == 0 then 0 else 1) stands.open_block;
        whole = open_whole old.held.revision old.held.tail commits.block commits.open_block;
        kind = open_records old.held.revision s.loose old.held.tail commits.block stands.open_block commits.open_block;
      })
      commits.tells stands.next_commit (ap link_to (sym was.header)) (sym was.from)

  pub commit_grows : FileAfter s f (Some (calls.Commit at)) (committed s) file_after
  commit_grows = subst (λ (b : Bool). MatchBool b (Grows s f (calls.Commit at) file_after) (file_after ≡ f)) (sym (eq-eqb (s.place + 1) (s.place + 1) refl)) commit_adds

  pub commit_file : IsFile told new.held new.file file_after
  commit_file = subst (λ (h : Held). IsFile told h new.file file_after) (sym commits.held) (record {
    shown = λ t. ap (λ (bs : File). bs ++ bytes_of records ++ commits.header.bytes ∷ []) (was.shown t)
        ∙ ap (λ (bs : File). bs ++ commits.header.bytes ∷ []) (sym (bytes-append old.file records))
        ∙ sym (bytes-append (old.file ++ records) (commits.header ∷ [])) ∙ ap bytes_of (sym (grown t));
    long = omega (arith, last.long, length-bytes_of records, was.long, stands.at_end);
    header = last.last ∙ ap Some (let e : length f + length (bytes_of records) ≡ end_at = omega (arith, length-bytes_of records, was.long, stands.at_end) in e);
    from = last.from ∙ commits.tells.from;
  })

  -- ---- the header

  header_is : header_after old.held ≡ header_of (committed s) f
  header_is =
      let link : Some old.held.header_at ≡ last_header f = sym was.header in
      let from : old.held.header.wal_from ≡ unflushed_from f = sym was.from in
      λ i. record {
        commit = stands.next_commit i;
        next_commit = stands.next_commit i + 1;
        previous = link i;
        key = None;
        seq = None;
        wal_from = from i;
        live = stands.live i;
        next_store = stands.next_store i;
        stores = stands.rows i;
      }

  pub puts_header : IsTrue told → PutsHeader (header_of (committed s) f) old new
  puts_header t =
      let end_is : end_at ≡ length (old.disk.files old.held.revision) + length records = ap (λ n. n + length records) (is_end t ∙ ap length (stands.shown t)) in
      record {
        block = commits.block;
        header = commits.header;
        open_block = commits.open_block;
        files = commits.files t;
        is_sealed = subst (λ (n : ℕ). IsSealed old.held.revision n 4 (header_bytes (header_of (committed s) f)) commits.header) end_is
            (subst (λ (h : Header). IsSealed old.held.revision end_at 4 (header_bytes h) commits.header) header_is commits.is_sealed);
      }
