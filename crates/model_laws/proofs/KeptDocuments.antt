-- Stores and documents that may stand together still may, when documents are set and deleted.
use Rattle.std.proofs.Common.{◌≡◌, ◌≢◌, ℕ, ◌+◌, ◌≤◌, ◌<◌, Bool, true, false, cond, List, [], ◌∷◌, Option, Some, None, codes, ◌⊎◌, inl, inr, sym, ap, subst, ◌∙◌, arith}
use Rattle.std.specs.Option.{option_map_or, is_none}
use Rattle.std.specs.FinMap as finite
use Rattle.std.proofs.lemmas.List.{length-map}
use Rattle.std.proofs.lemmas.Bool.{true≢false}
use Rattle.std.proofs.lemmas.Option.{same_Some, none-some}
use Rattle.forest_model.specs.Documents.{Map, key_at, doc_of, after_items}
use Rattle.forest_model.specs.Stores.{store_of, seq_of, at_seq, with_seq}
use Rattle.forest_model.specs.State.{AreKept, OfStore}
use Rattle.forest_model.specs.declared.call.Item.{Item}
use Rattle.forest_model.specs.declared.call.Item.TheVariants.{Put, Del}
use Rattle.forest_model.specs.declared.documents.DocKey.{DocKey}
use Rattle.forest_model.specs.declared.documents.Doc.{Doc}
use Rattle.forest_model.specs.declared.state.Store.{Store}
use Rattle.model_laws.proofs.Keys.{got_inserted, got_removed}
use Rattle.model_laws.proofs.Lists.{later_mapped}
use Rattle.model_laws.proofs.Stores.{Apart, apart-at_seq, name-at_seq, gone-with_seq, of-with_seq, seq_of-with_seq, raised, with_seq_twice}

-- a store comes to a later number
pub raised_kept : (stores : List Store) (m : Map) (id seq : ℕ) → AreKept stores m → seq_of stores id ≤ seq → AreKept (with_seq stores id seq) m
raised_kept stores m id seq h le = record {
  stores_apart = later_mapped Apart (at_seq id seq) (apart-at_seq id seq) stores h.stores_apart;
  at_most = subst (λ n. n ≤ 64) (sym (length-map stores (at_seq id seq))) h.at_most;
  default = of-with_seq (λ s. s.name ≡ codes "default") stores id seq 0 (λ s e is. name-at_seq id seq s ∙ is) h.default;
  numbers = λ k d e. let n = h.numbers k d e in (n.0, raised stores id seq k.store d.seq le n.1);
  apart = h.apart;
}

-- a document's store is there, and has come to its number
abbrev IsPlaced : List Store → DocKey → Doc → Type 0
IsPlaced stores k d = (1 ≤ d.seq) × OfStore (store_of stores k.store) (λ s. d.seq ≤ s.seq)

-- a document at a number that none of its store has
pub put_kept : (stores : List Store) (m : Map) (id seq : ℕ) (key meta body : List ℕ) → AreKept stores m
    → 1 ≤ seq → OfStore (store_of stores id) (λ s. seq ≤ s.seq) → ((l : DocKey) (e : Doc) → finite.get m l ≡ Some e → l.store ≡ id → e.seq ≢ seq) → AreKept stores (finite.insert m (key_at id key) (doc_of seq meta body))
put_kept stores m id seq key meta body h positive come fresh = record {
  stores_apart = h.stores_apart;
  at_most = h.at_most;
  default = h.default;
  numbers = λ k d e. elim (cases k d e) [
    | inl new ↦ subst (λ x. IsPlaced stores x d) (sym new.0) (subst (λ y. IsPlaced stores (key_at id key) y) new.1 (positive, come))
    | inr old ↦ h.numbers k d old
  ];
  apart = λ k l d e p q same n. elim (cases k d p) [
    | inl a ↦ elim (cases l e q) [
      | inl b ↦ a.0 ∙ sym b.0
      | inr old ↦ absurd (fresh l e old (sym same ∙ ap (λ (x : DocKey). x.store) a.0) (sym n ∙ ap (λ (x : Doc). x.seq) (sym a.1)))
    ]
    | inr older ↦ elim (cases l e q) [
      | inl b ↦ absurd (fresh k d older (same ∙ ap (λ (x : DocKey). x.store) b.0) (n ∙ ap (λ (x : Doc). x.seq) (sym b.1)))
      | inr old ↦ h.apart k l d e older old same n
    ]
  ];
}
  where
    cases : (k : DocKey) (d : Doc) → finite.get (finite.insert m (key_at id key) (doc_of seq meta body)) k ≡ Some d
        → ((k ≡ key_at id key) × (doc_of seq meta body ≡ d)) ⊎ (finite.get m k ≡ Some d)
    cases k d = got_inserted m (key_at id key) k (doc_of seq meta body) d

-- a document less
pub removed_kept : (stores : List Store) (m : Map) (key : DocKey) → AreKept stores m → AreKept stores (finite.remove m key)
removed_kept stores m key h = record {
  stores_apart = h.stores_apart;
  at_most = h.at_most;
  default = h.default;
  numbers = λ k d e. h.numbers k d (got_removed m key k d e);
  apart = λ k l d e p q. h.apart k l d e (got_removed m key k d p) (got_removed m key l e q);
}

at_most_seq : (o : Option Store) (n : ℕ) → OfStore o (λ s. n ≤ s.seq) → n ≤ option_map_or (λ s. s.seq) o 0
at_most_seq None n h = absurd h
at_most_seq (Some s) n h = h

come_to : (stores : List Store) (id seq : ℕ) → is_none (store_of stores id) ≡ false → OfStore (store_of (with_seq stores id seq) id) (λ s. seq ≤ s.seq)
come_to stores id seq there = by (store_of (with_seq stores id seq) id) (gone-with_seq stores id seq id ∙ there) (seq_of-with_seq stores id seq there)
  where
    by : (o : Option Store) → is_none o ≡ false → option_map_or (λ t. t.seq) o 0 ≡ seq → OfStore o (λ s. seq ≤ s.seq)
    by None n e = absurd (true≢false n)
    by (Some s) n e = omega arith

-- a document is set at a later number of its store, or deleted
pub set_kept : (stores : List Store) (m : Map) (id seq : ℕ) (key meta body : List ℕ) → AreKept stores m
    → is_none (store_of stores id) ≡ false → seq_of stores id < seq → AreKept (with_seq stores id seq) (finite.insert m (key_at id key) (doc_of seq meta body))
set_kept stores m id seq key meta body h there less =
    put_kept (with_seq stores id seq) m id seq key meta body (raised_kept stores m id seq h (omega arith)) (omega arith) (come_to stores id seq there) fresh
  where
    fresh : (l : DocKey) (e : Doc) → finite.get m l ≡ Some e → l.store ≡ id → e.seq ≢ seq
    fresh l e got same n =
        let low : e.seq ≤ seq_of stores l.store = at_most_seq (store_of stores l.store) e.seq (h.numbers l e got).1 in
        let here : seq_of stores l.store ≡ seq_of stores id = ap (seq_of stores) same in
        omega arith

pub deleted_kept : (stores : List Store) (m : Map) (id seq : ℕ) (key : DocKey) → AreKept stores m → seq_of stores id ≤ seq
    → AreKept (with_seq stores id seq) (finite.remove m key)
deleted_kept stores m id seq key h le = removed_kept (with_seq stores id seq) m key (raised_kept stores m id seq h le)

chosen : {X : Type 0} (b : Bool) (o : Option X) (x : X) → cond b o None ≡ Some x → o ≡ Some x
chosen true o x e = e
chosen false o x e = absurd (none-some x e)

-- the items of a batch, one after another
pub batch_kept : (items : List Item) (stores : List Store) (m : Map) (id seq : ℕ) (after : ℕ × Map) → AreKept stores m
    → is_none (store_of stores id) ≡ false → seq_of stores id ≡ seq → after_items id items seq m ≡ Some after → AreKept (with_seq stores id after.0) after.1
batch_kept [] stores m id seq after h there is e =
    subst (λ (a : ℕ × Map). AreKept (with_seq stores id a.0) a.1) (same_Some (seq, m) after e) (raised_kept stores m id seq h (omega arith))
batch_kept (Put key meta body ∷ items) stores m id seq after h there is e =
    subst (λ s. AreKept s after.1) (with_seq_twice stores id (seq + 1) after.0)
    (batch_kept items (with_seq stores id (seq + 1)) (finite.insert m (key_at id key) (doc_of (seq + 1) meta body)) id (seq + 1) after
    (set_kept stores m id (seq + 1) key meta body h there (omega arith)) (gone-with_seq stores id (seq + 1) id ∙ there) (seq_of-with_seq stores id (seq + 1) there) e)
batch_kept (Del key ∷ items) stores m id seq after h there is e =
    subst (λ s. AreKept s after.1) (with_seq_twice stores id (seq + 1) after.0)
    (batch_kept items (with_seq stores id (seq + 1)) (finite.remove m (key_at id key)) id (seq + 1) after
    (deleted_kept stores m id (seq + 1) (key_at id key) h (omega arith)) (gone-with_seq stores id (seq + 1) id ∙ there) (seq_of-with_seq stores id (seq + 1) there)
    (chosen (finite.contains_key m (key_at id key)) _ after e))
