-- The index and the documents once a key is set.
use Rattle.std.proofs.Common.{◌≡◌, ◌≢◌, ℕ, ◌+◌, ◌≤◌, ◌<◌, Bool, true, false, cond, List, Option, Some, None, refl, sym, ap, subst, ◌∙◌, arith, inl, inr}
use Rattle.std.specs.Prelude.{◌==◌, IsTrue, is_some, MatchBool}
use Rattle.std.specs.Option.{option_map, option_map_or}
use Rattle.std.specs.FinMap as finite
use Rattle.std.proofs.lemmas.Bool.{eqb-true, eq-eqb, false≢true}
use Rattle.std.proofs.lemmas.Option.{same_Some, none-some}
use Rattle.block_host.specs.declared.block.Block.{Block}
use Rattle.doc_stream.specs.OpenBlock.{OpenBlock}
use Rattle.doc_stream.specs.Reading.{RecordAt}
use Rattle.file_image.specs.Commits.{live_of}
use Rattle.forest_model.specs.Documents.{Map, key_at, doc_at}
use Rattle.forest_model.specs.Stores.{store_of, at_seq, with_seq}
use Rattle.forest_model.specs.State.{OfStore}
use Rattle.forest_model.specs.declared.documents.DocKey.{DocKey}
use Rattle.forest_model.specs.declared.documents.Doc.{Doc}
use Rattle.forest_model.specs.declared.state.State.{State}
use Rattle.forest_model.specs.declared.state.Store.{Store}
use Rattle.forest_model.specs.declared.stored.Entry.{Entry}
use Rattle.forest_model.specs.declared.stored.Rec.{Rec}
use Rattle.wal_index.specs.Index.{Map as Entries, entry_at, has_number}
use Rattle.file_core.specs.Stands.{IsKept, HasDocument, AreDocuments, DrawNumbers, SameAtSameNumber}
use Rattle.file_documents.specs.Setting.{put_of, is_live, live_len, entry_of}
use Rattle.file_core.proofs.Inserted.{same_or_other, got_own, got_other, part}
use Rattle.file_core.proofs.StoreRows.{found_id, store_of-with_seq, own_raised, each_raised}

-- ---- documents

module _ (told : Bool) (revision : ℕ) (file file' : List Block) (tail tail' : OpenBlock) (keeps : IsTrue told → (address : ℕ) (r : Rec) → RecordAt revision file tail address r → RecordAt revision file' tail' address r) where
  kept_more : (k : DocKey) (e : Entry) (d : Doc) → IsKept told revision file tail k e d → IsKept told revision file' tail' k e d
  kept_more k e d h = record { seq = h.seq; len = h.len; there = λ t. keeps t e.address (put_of k d) (h.there t) }

  pub has_more : (k : DocKey) (oe : Option Entry) (od : Option Doc) → HasDocument told revision file tail k oe od → HasDocument told revision file' tail' k oe od
  has_more k None od h = h
  has_more k (Some e) od h = by e.live h where
    by : (b : Bool) → MatchBool b ((d : Doc) × (od ≡ Some d) × IsKept told revision file tail k e d) (od ≡ None) → MatchBool b ((d : Doc) × (od ≡ Some d) × IsKept told revision file' tail' k e d) (od ≡ None)
    by true h = (h.0, h.1, kept_more k e h.0 h.2)
    by false h = h

  pub documents_set : (entries : Entries) (documents : Map) (k : DocKey) (d : Doc) → AreDocuments told revision file tail entries documents
      → (IsTrue told → RecordAt revision file' tail' (entry_of tail k d).address (put_of k d)) → AreDocuments told revision file' tail' (finite.insert entries k (entry_of tail k d)) (finite.insert documents k d)
  documents_set entries documents k d are there q = elim (same_or_other q k) [
    | inl same ↦ subst (λ (x : DocKey). HasDocument told revision file' tail' x (finite.get (finite.insert entries k (entry_of tail k d)) x) (finite.get (finite.insert documents k d) x)) (sym same)
        (subst (λ (oe : Option Entry). HasDocument told revision file' tail' k oe (finite.get (finite.insert documents k d) k)) (sym (got_own entries k (entry_of tail k d)))
        (d, got_own documents k d, record { seq = refl; len = refl; there = there }))
    | inr other ↦ subst (λ (oe : Option Entry). HasDocument told revision file' tail' q oe (finite.get (finite.insert documents k d) q)) (sym (got_other entries k q (entry_of tail k d) other))
        (subst (λ (od : Option Doc). HasDocument told revision file' tail' q (finite.get entries q) od) (sym (got_other documents k q d other)) (has_more q (finite.get entries q) (finite.get documents q) (are q)))
  ]

-- what the older entry tells of the older document
pub older_len : (told : Bool) (revision : ℕ) (file : List Block) (tail : OpenBlock) (k : DocKey) (oe : Option Entry) (od : Option Doc) → HasDocument told revision file tail k oe od → live_len oe ≡ part live_of k od
older_len told revision file tail k None od h = sym (ap (part live_of k) h)
older_len told revision file tail k (Some e) od h = by e.live h where
  by : (b : Bool) → MatchBool b ((d : Doc) × (od ≡ Some d) × IsKept told revision file tail k e d) (od ≡ None) → cond b e.len 0 ≡ part live_of k od
  by true h = h.2.len ∙ sym (ap (part live_of k) h.1)
  by false h = sym (ap (part live_of k) h)

pub older_lives : (told : Bool) (revision : ℕ) (file : List Block) (tail : OpenBlock) (k : DocKey) (oe : Option Entry) (od : Option Doc) → HasDocument told revision file tail k oe od → is_live oe ≡ is_some od
older_lives told revision file tail k None od h = sym (ap is_some h)
older_lives told revision file tail k (Some e) od h = by e.live h where
  by : (b : Bool) → MatchBool b ((d : Doc) × (od ≡ Some d) × IsKept told revision file tail k e d) (od ≡ None) → b ≡ is_some od
  by true h = sym (ap is_some h.1)
  by false h = sym (ap is_some h)

-- ---- numbers

has_entry : (o : Option Entry) (seq : ℕ) → option_map_or (λ e. e.seq == seq) o false ≡ true → (e : Entry) × (o ≡ Some e) × (e.seq ≡ seq)
has_entry None seq h = absurd (false≢true h)
has_entry (Some e) seq h = (e, refl, eqb-true e.seq seq h)

of_found : (stores : List Store) (id n : ℕ) (st : Store) → store_of stores id ≡ Some st → OfStore (store_of stores id) (λ s. n ≤ s.seq) → n ≤ st.seq
of_found stores id n st found h = subst (λ (o : Option Store). OfStore o (λ s. n ≤ s.seq)) found h

pub numbers_set : (entries : Entries) (stores : List Store) (id : ℕ) (key : List ℕ) (st : Store) (e : Entry) → DrawNumbers entries stores → store_of stores id ≡ Some st → e.seq ≡ st.seq + 1
    → DrawNumbers (finite.insert entries (key_at id key) e) (with_seq stores id e.seq)
numbers_set entries stores id key st e old found next = record { drawn = drawn; apart = apart } where
  drawn : (store : ℕ) (q : List ℕ) (x : Entry) → entry_at (finite.insert entries (key_at id key) e) store q ≡ Some x → (1 ≤ x.seq) × OfStore (store_of (with_seq stores id e.seq) store) (λ s. x.seq ≤ s.seq)
  drawn store q x got = elim (same_or_other (key_at store q) (key_at id key)) [
    | inl same ↦
        let new : e ≡ x = same_Some e x (sym (got_own entries (key_at id key) e) ∙ ap (finite.get (finite.insert entries (key_at id key) e)) (sym same) ∙ got) in
        subst (λ (y : Entry). (1 ≤ y.seq) × OfStore (store_of (with_seq stores id e.seq) store) (λ s. y.seq ≤ s.seq)) new
        (omega arith, subst (λ (n : ℕ). OfStore (store_of (with_seq stores id e.seq) n) (λ s. e.seq ≤ s.seq)) (sym (ap (λ (y : DocKey). y.store) same)) (own_raised stores id e.seq st found))
    | inr other ↦
        let was = old.drawn store q x (sym (got_other entries (key_at id key) (key_at store q) e other) ∙ got) in
        (was.0, each_raised stores id e.seq st found (omega (arith, next)) store x.seq was.1)
  ]

  own_number : (store seq : ℕ) (q : List ℕ) → key_at store q ≡ key_at id key → has_number (finite.insert entries (key_at id key) e) store seq q ≡ true → e.seq ≡ seq
  own_number store seq q same has =
      let h = has_entry (entry_at (finite.insert entries (key_at id key) e) store q) seq has in
      ap (λ (y : Entry). y.seq) (same_Some e h.0 (sym (got_own entries (key_at id key) e) ∙ ap (finite.get (finite.insert entries (key_at id key) e)) (sym same) ∙ h.1)) ∙ h.2

  other_has : (store seq : ℕ) (q : List ℕ) → key_at store q ≢ key_at id key → has_number (finite.insert entries (key_at id key) e) store seq q ≡ true → has_number entries store seq q ≡ true
  other_has store seq q other has = ap (λ (o : Option Entry). option_map_or (λ y. y.seq == seq) o false) (sym (got_other entries (key_at id key) (key_at store q) e other)) ∙ has

  -- an older entry of the store has a lower number
  lower : (store seq : ℕ) (q r : List ℕ) → key_at store q ≡ key_at id key → has_number (finite.insert entries (key_at id key) e) store seq q ≡ true → has_number entries store seq r ≡ true → ⊥
  lower store seq q r same own older =
      let h = has_entry (entry_at entries store r) seq older in
      let was = old.drawn store r h.0 h.1 in
      let at : store_of stores store ≡ Some st = ap (λ (y : DocKey). store_of stores y.store) same ∙ found in
      let less : h.0.seq ≤ st.seq = of_found stores store h.0.seq st at was.1 in
      let is : e.seq ≡ seq = own_number store seq q same own in
      let too : h.0.seq ≡ seq = h.2 in
      absurd (omega arith)

  apart : (store seq : ℕ) (q r : List ℕ) → has_number (finite.insert entries (key_at id key) e) store seq q ≡ true → has_number (finite.insert entries (key_at id key) e) store seq r ≡ true → q ≡ r
  apart store seq q r a b = elim (same_or_other (key_at store q) (key_at id key)) [
    | inl same ↦ elim (same_or_other (key_at store r) (key_at id key)) [
      | inl too ↦ ap (λ (y : DocKey). y.key) (same ∙ sym too)
      | inr other ↦ absurd (lower store seq q r same a (other_has store seq r other b))
    ]
    | inr other ↦ elim (same_or_other (key_at store r) (key_at id key)) [
      | inl same ↦ absurd (lower store seq r q same b (other_has store seq q other a))
      | inr too ↦ old.apart store seq q r (other_has store seq q other a) (other_has store seq r too b)
    ]
  ]

-- ---- since the last commit

-- a store hasn't fallen, and at the same number its documents are the same
abbrev Goes : Map → Map → Store → Store → Type 0
Goes documents last before now = (before.seq ≤ now.seq) × (before.seq ≡ now.seq → (q : List ℕ) → doc_at documents now.id q ≡ doc_at last now.id q)

pub unchanged_by : (s : State) (id seq : ℕ) (st : Store) (m : Map) → ((q : DocKey) → q.store ≢ id → finite.get m q ≡ finite.get s.documents q) → SameAtSameNumber s → store_of s.stores id ≡ Some st → st.seq < seq
    → (before now : Store) → store_of s.last.stores now.id ≡ Some before → store_of (with_seq s.stores id seq) now.id ≡ Some now → Goes m s.last.documents before now
unchanged_by s id seq st m others same found more before now was is = by (store_of s.stores now.id) refl (sym (store_of-with_seq s.stores id seq now.id) ∙ is) where
  old_store : (t : Store) → store_of s.stores now.id ≡ Some t → Goes s.documents s.last.documents before t
  old_store t e =
      let id_is : t.id ≡ now.id = found_id s.stores now.id t e in
      same before t (ap (store_of s.last.stores) id_is ∙ was) (ap (store_of s.stores) id_is ∙ e)

  at : (t : Store) → store_of s.stores now.id ≡ Some t → (b : Bool) → (t.id == id) ≡ b → Goes m s.last.documents before (cond b (record t { seq = seq }) t)
  at t e true is_own =
      let own : now.id ≡ id = sym (found_id s.stores now.id t e) ∙ eqb-true t.id id is_own in
      let this : st ≡ t = same_Some st t (sym found ∙ ap (store_of s.stores) (sym own) ∙ e) in
      let level : st.seq ≡ t.seq = ap (λ (x : Store). x.seq) this in
      let low : before.seq ≤ t.seq = (old_store t e).0 in
      (omega arith, λ no. absurd (omega arith))
  at t e false is_other =
      let h = old_store t e in
      (h.0, λ level q. others (key_at t.id q) (λ own. false≢true (sym is_other ∙ eq-eqb t.id id own)) ∙ h.1 level q)

  by : (o : Option Store) → store_of s.stores now.id ≡ o → option_map (at_seq id seq) o ≡ Some now → Goes m s.last.documents before now
  by None e is = absurd (none-some now is)
  by (Some t) e is = subst (λ (n : Store). Goes m s.last.documents before n) (same_Some (at_seq id seq t) now is) (at t e (t.id == id) refl)

pub unchanged_set : (s : State) (id seq : ℕ) (key : List ℕ) (st : Store) (d : Doc) → SameAtSameNumber s → store_of s.stores id ≡ Some st → st.seq < seq → (before now : Store)
    → store_of s.last.stores now.id ≡ Some before → store_of (with_seq s.stores id seq) now.id ≡ Some now
    → Goes (finite.insert s.documents (key_at id key) d) s.last.documents before now
unchanged_set s id seq key st d =
    unchanged_by s id seq st (finite.insert s.documents (key_at id key) d) (λ q other. got_other s.documents (key_at id key) q d (λ own. other (ap (λ (x : DocKey). x.store) own)))
