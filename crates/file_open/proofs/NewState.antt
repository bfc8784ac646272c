-- What is in memory of a new store stands for the state of one.
use Rattle.std.proofs.Common.{◌≡◌, ℕ, ◌^◌, ◌≤◌, Bool, true, false, List, [], ◌∷◌, length, Option, Some, refl, sym, ap, subst, ◌∙◌, arith, inl}
use Rattle.std.specs.Prelude.{IsTrue, ◌==◌, ◌&&◌, count_by, sum_by}
use Rattle.std.specs.Cmp.Lexicographic.{pointwise}
use Rattle.std.specs.FinMap as finite
use Rattle.std.specs.Option.{option_map_or}
use Rattle.std.proofs.lemmas.Option.{same_Some, none-some}
use Rattle.std.proofs.lemmas.Bool.{false≢true}
use Rattle.block_host.specs.Disk.{Disk}
use Rattle.block_host.specs.declared.block.Block.{Block}
use Rattle.doc_stream.specs.OpenBlock.{OpenBlock}
use Rattle.doc_stream.specs.Scanned.{IsScanned}
use Rattle.file_parts.specs.Held.{Held}
use Rattle.file_core.specs.Recorded.{IsRecorded}
use Rattle.file_core.specs.Stands.{Stands, AreDocuments, DrawNumbers, HasDocument, SameAtSameNumber}
use Rattle.file_image.specs.Commits.{live_of, live_bytes}
use Rattle.file_image.specs.NewStore.{default_row}
use Rattle.file_open.specs.Opened.{new_held}
use Rattle.forest_model.specs.Key.{key_cmp}
use Rattle.forest_model.specs.Documents.{count_of, is_of, is_same_entry}
use Rattle.forest_model.specs.Stores.{are_same_stores}
use Rattle.forest_model.specs.State.{AreKept, IsState, first_stores, no_documents, new_state, nothing_new}
use Rattle.forest_model.specs.declared.call.Limits.{Limits}
use Rattle.forest_model.specs.declared.documents.DocKey.{DocKey}
use Rattle.forest_model.specs.declared.documents.Doc.{Doc}
use Rattle.forest_model.specs.declared.state.Store.{Store}
use Rattle.forest_model.specs.declared.stored.Entry.{Entry}
use Rattle.wal_index.specs.Index.{nothing as no_index, key_at, has_number}

empty_list : {A : Type 0} (xs : List A) → length xs ≡ 0 → xs ≡ []
empty_list [] e = refl
empty_list (x ∷ xs) e = absurd (omega (arith, e))

no_entries : finite.entries no_documents ≡ []
no_entries = empty_list _ (sym (finite.len-entries no_documents) ∙ finite.len-empty key_cmp Doc)

none_counted : (store : ℕ) → 0 ≡ count_of no_documents store
none_counted store = sym (ap (count_by (is_of store)) no_entries)

none_live : 0 ≡ live_bytes no_documents
unfolding live_bytes
none_live = sym (ap (sum_by live_of) no_entries)

-- a document or an entry that isn't there
no_document : {P : Type 0} (k : DocKey) (d : Doc) → finite.get no_documents k ≡ Some d → P
no_document k d there = absurd (none-some d (sym (finite.get-empty key_cmp k) ∙ there))

no_entry : {P : Type 0} (k : DocKey) (e : Entry) → finite.get no_index k ≡ Some e → P
no_entry k e there = absurd (none-some e (sym (finite.get-empty key_cmp k) ∙ there))

no_number : {P : Type 0} (store seq : ℕ) (key : List ℕ) → has_number no_index store seq key ≡ true → P
no_number store seq key has =
    absurd (false≢true (sym (ap (λ (o : Option Entry). option_map_or (λ e. e.seq == seq) o false) (finite.get-empty key_cmp (key_at store key))) ∙ has))

-- ---- its rules

are_kept : AreKept first_stores no_documents
are_kept = record {
  stores_apart = (tt, tt);
  at_most = omega arith;
  default = refl;
  numbers = λ k d there. no_document k d there;
  apart = λ k l d e there other store number. no_document k d there;
}

is_new_state : (limits : Limits) → IsState (new_state limits)
is_new_state limits = record {
  now = are_kept;
  commits = (are_kept, tt);
  newest_first = (tt, tt);
  numbers_drawn = (omega arith, tt);
  kept_ids = ((omega arith, tt), tt);
  ids_drawn = (omega arith, tt);
  kept_drawn = omega arith;
  tickets = omega arith;
  copies = tt;
  open_block = omega arith;
}

-- ---- what is in memory

no_documents_are : (told : Bool) (file : List Block) (tail : OpenBlock) → AreDocuments told 1 file tail no_index no_documents
no_documents_are told file tail k =
    subst (λ (o : Option Entry). HasDocument told 1 file tail k o (finite.get no_documents k)) (sym (finite.get-empty key_cmp k)) (finite.get-empty key_cmp k)

no_numbers : DrawNumbers no_index first_stores
no_numbers = record {
  drawn = λ store key e there. no_entry (key_at store key) e there;
  apart = λ store seq key other has also. no_number store seq key has;
}

same_store : (limits : Limits) → SameAtSameNumber (new_state limits)
same_store limits before now was is =
    let same : before ≡ now = same_Some before now (sym was ∙ is) in
    (subst (λ (s : Store). before.seq ≤ s.seq) same (omega arith), λ number key. refl)

nothing_is_new : (limits : Limits) → IsTrue (nothing_new (new_state limits))
nothing_is_new limits = ap (λ es. are_same_stores first_stores first_stores && pointwise is_same_entry es es) no_entries

row_is : default_row 0 0 ∷ [] ≡ default_row 0 (count_of no_documents 0) ∷ []
row_is = ap (λ n. default_row 0 n ∷ []) (none_counted 0)

-- no record is in the file, and none in the open block
none_scanned : (limits : Limits) (file : List Block) → length file ≡ 1 → IsScanned 1 file (record { number = 1; bytes = [] }) 1 []
none_scanned limits file size = record {
  ends = record { number = sym size; short = omega arith };
  pieces = [];
  count = 0;
  counted = sym size;
  blocks = refl;
  are = refl;
}

no_records : (limits : Limits) (file : List Block) → length file ≡ 1 → IsRecorded (new_held limits) file (new_state limits)
no_records limits file size = record {
  records = [];
  scanned = none_scanned limits file size;
  made = record { known = tt; rise = tt; above = λ k d there. no_document k d there; folded = refl; last = (tt, tt) };
  recent = [];
  behind = none_scanned limits file size;
  folded = refl;
}

module _ (told : Bool) (limits : Limits) (most : limits.max_blocks ≤ 2 ^ 32) (disk : Disk) (file : List Block) (shown : IsTrue told → file ≡ disk.files 1) (size : IsTrue told → length file ≡ 1) where
  new_stands : Stands told (new_held limits) disk file (new_state limits)
  new_stands = record {
    running = refl;
    shown = shown;
    is_state = is_new_state limits;
    rows = row_is;
    next_store = refl;
    no_key_root = refl;
    no_seq_root = refl;
    documents = no_documents_are told file (record { number = 1; bytes = [] });
    numbers = no_numbers;
    live = none_live;
    commit = refl;
    committed = row_is;
    kept = refl;
    unchanged = same_store limits;
    revision = refl;
    generation = refl;
    place = refl;
    next_commit = refl;
    next_ticket = refl;
    limits = refl;
    copying = refl;
    loose = refl;
    open_block = refl;
    at_end = refl;
    size = size;
    room = inl (nothing_is_new limits);
    low = omega arith;
    most = most;
    within = omega arith;
    recorded = λ tells. no_records limits file (size tells);
  }

  pub stands_by : (p : Held) → p ≡ new_held limits → Stands told p disk file (new_state limits)
  stands_by p is = subst (λ (h : Held). Stands told h disk file (new_state limits)) (sym is) new_stands
