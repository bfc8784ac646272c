-- What a look-up by key and one by number answer.
use Rattle.std.proofs.Common.{◌≡◌, ℕ, false, List, Some, refl, sym, ap, subst, ◌∙◌}
use Rattle.std.specs.Option.{is_none, option_map_or}
use Rattle.forest_model.specs.Documents.{Entry, doc_at, doc_numbered}
use Rattle.forest_model.specs.Stores.{store_of}
use Rattle.forest_model.specs.Blocks.{File}
use Rattle.forest_model.specs.Step.{Outcome, found_of, found_at}
use Rattle.forest_model.specs.declared.call.Found.{Found}
use Rattle.forest_model.specs.declared.call.StoreRef.{StoreRef}
use Rattle.forest_model.specs.declared.call.Call.TheVariants.{Get, BySeq}
use Rattle.forest_model.specs.declared.call.Reply.{Reply}
use Rattle.forest_model.specs.declared.call.Reply.TheVariants.{Document, Refused}
use Rattle.forest_model.specs.declared.documents.Doc.{Doc}
use Rattle.forest_model.specs.declared.refusal.Refusal.TheVariants.{NotFound}
use Rattle.forest_model.specs.declared.state.State.{State}
use Rattle.model_laws.specs.Laws.{reply_to}
use Rattle.model_laws.specs.Answered.{IsAnswered, IsKey}
use Rattle.model_laws.proofs.Conditions.{idle, key_fits, some_is}
use Rattle.model_laws.proofs.Free.{answered_free, free_step}
use Rattle.model_laws.proofs.Steps.{unmet}

-- by number
pub by_seq_is : (s : State) (file : File) (at : StoreRef) (seq : ℕ) (e : Entry) → is_none (store_of s.stores at.store) ≡ false → doc_numbered s.documents at.store seq ≡ Some e
    → reply_to s file (BySeq at seq) ≡ Document (found_of e.0.key e.1)
by_seq_is s file at seq e there f =
    let gone : is_none (doc_numbered s.documents at.store seq) ≡ false = (some_is _).1 (e, f) in
    ap (λ (o : Outcome). o.0) (free_step s file (BySeq at seq) (record { causes = (idle _ _ there, (idle _ _ gone, tt)); room = refl }))
    ∙ ap (λ o. (option_map_or (λ x. found_at x.0.key x.1 s) o (Refused NotFound, s)).0) f

pub record IsBySeq (s : State) (at : StoreRef) (seq : ℕ) (found : Found) : Type 0 where
  pub there : is_none (store_of s.stores at.store) ≡ false
  pub entry : Entry
  pub numbered : doc_numbered s.documents at.store seq ≡ Some entry
  pub is : found_of entry.0.key entry.1 ≡ found

abbrev document : Found → Reply → Found
document other (Document found) = found
document other reply = other

pub by_seq_says : (s : State) (file : File) (at : StoreRef) (seq : ℕ) (found : Found) → reply_to s file (BySeq at seq) ≡ Document found → IsBySeq s at seq found
by_seq_says s file at seq found e =
    let free = answered_free s file (BySeq at seq) (subst IsAnswered (sym e) (λ why h. cc)) in
    let there = unmet _ _ free.causes.0 in
    let entry = (some_is (doc_numbered s.documents at.store seq)).0 (unmet _ _ free.causes.1.0) in
    record { there = there; entry = entry.0; numbered = entry.1; is = ap (document found) (sym (by_seq_is s file at seq entry.0 there entry.1) ∙ e) }

-- by key
pub get_is : (s : State) (file : File) (at : StoreRef) (key : List ℕ) (d : Doc) → IsKey key → is_none (store_of s.stores at.store) ≡ false → doc_at s.documents at.store key ≡ Some d
    → reply_to s file (Get at key) ≡ Document (found_of key d)
get_is s file at key d fits there f =
    let gone : is_none (doc_at s.documents at.store key) ≡ false = (some_is _).1 (d, f) in
    ap (λ (o : Outcome). o.0) (free_step s file (Get at key) (record { causes = (idle _ _ ((key_fits key).1 fits), (idle _ _ there, (idle _ _ gone, tt))); room = refl }))
    ∙ ap (λ o. (option_map_or (λ x. found_at key x s) o (Refused NotFound, s)).0) f

pub record IsByKey (s : State) (at : StoreRef) (key : List ℕ) (found : Found) : Type 0 where
  pub there : is_none (store_of s.stores at.store) ≡ false
  pub doc : Doc
  pub at_key : doc_at s.documents at.store key ≡ Some doc
  pub is : found_of key doc ≡ found

pub get_tells : (s : State) (file : File) (at : StoreRef) (key : List ℕ) (found : Found) → reply_to s file (Get at key) ≡ Document found → IsByKey s at key found
get_tells s file at key found e =
    let free = answered_free s file (Get at key) (subst IsAnswered (sym e) (λ why h. cc)) in
    let there = unmet _ _ free.causes.1.0 in
    let doc = (some_is (doc_at s.documents at.store key)).0 (unmet _ _ free.causes.1.1.0) in
    record { there = there; doc = doc.0; at_key = doc.1; is = ap (document found) (sym (get_is s file at key doc.0 ((key_fits key).0 (unmet _ _ free.causes.0)) there doc.1) ∙ e) }
