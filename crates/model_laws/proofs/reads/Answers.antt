use Rattle.std.proofs.Common.{◌≡◌, Some, refl, sym, ap, subst, ◌∙◌}
use Rattle.std.specs.FinMap as finite
use Rattle.std.proofs.lemmas.Option.{same_Some}
use Rattle.forest_model.specs.Documents.{key_at, doc_numbered, doc_at, count_of}
use Rattle.forest_model.specs.Stores.{store_of, seq_of}
use Rattle.forest_model.specs.State.{OfStore}
use Rattle.forest_model.specs.Step.{found_of, ticket_of}
use Rattle.forest_model.specs.declared.call.Found.{Found}
use Rattle.forest_model.specs.declared.documents.DocKey.{DocKey}
use Rattle.forest_model.specs.declared.call.Call.TheVariants.{Get, BySeq, Info}
use Rattle.forest_model.specs.declared.call.Reply.TheVariants.{Document}
use Rattle.model_laws.specs.Reads.{GetTells, BySeqTells, OneDocument, InfoTells, IsInfo, MarkersTell}
use Rattle.model_laws.proofs.Conditions.{key_fits, some_is, ticket_shown}
use Rattle.model_laws.proofs.Counted.{keys_of, keys_counted, are_keys}
use Rattle.model_laws.proofs.Finding.{by_seq_is, by_seq_says, get_is, get_tells}
use Rattle.model_laws.proofs.Free.{answered_free, answered_has}
use Rattle.model_laws.proofs.Numbered.{numbered_there, seq_is}
use Rattle.model_laws.proofs.Steps.{unmet}
use Rattle.model_laws.proofs.Stores.{seq_at}
use Rattle.model_laws.proofs.reads.Goals as goal

get_tells_document : GetTells
get_tells_document s file at key h =
    let free = answered_free s file (Get at key) h in
    let doc = (some_is (doc_at s.documents at.store key)).0 (unmet _ _ free.causes.1.1.0) in
    record {
      found = found_of key doc.0;
      answers = get_is s file at key doc.0 ((key_fits key).0 (unmet _ _ free.causes.0)) (unmet _ _ free.causes.1.0) doc.1;
      named = refl;
      is = record { doc = doc.0; there = doc.1; same = (refl, refl, refl) };
    }

info_tells : InfoTells
info_tells s file at h =
    answered_has (λ o. IsInfo s o.0 at.store) s file (Info at) h
    (λ free.
    let st = (some_is (store_of s.stores at.store)).0 (unmet _ _ free.0) in
    record {
      info = record { commit = s.last.number; seq = seq_of s.stores at.store; documents = count_of s.documents at.store; ticket = ticket_of s };
      answers = refl;
      commit = refl;
      seq = subst (λ o. OfStore o (λ t. seq_of s.stores at.store ≡ t.seq)) (sym st.1) (seq_at s.stores at.store st.0 st.1);
      keys = keys_of s.documents at.store;
      keys_of_store = are_keys s.documents at.store;
      documents = keys_counted s.documents at.store;
      ticket = ticket_shown s.copying;
    })

markers_tell : MarkersTell
markers_tell s file = refl

by_seq_tells : BySeqTells
by_seq_tells s file at seq h =
    let free = answered_free s file (BySeq at seq) h in
    let entry = (some_is (doc_numbered s.documents at.store seq)).0 (unmet _ _ free.causes.1.0) in
    let is = numbered_there s.documents at.store seq entry.0 entry.1 in
    record {
      found = found_of entry.0.0.key entry.0.1;
      answers = by_seq_is s file at seq entry.0 (unmet _ _ free.causes.0) entry.1;
      numbered = is.numbered;
      is = record { doc = entry.0.1; there = is.there; same = (refl, refl, refl) };
    }

one_document : OneDocument
one_document s file at seq found rules fits = (
  λ e.
      let b = by_seq_says s file at seq found e in
      let is = numbered_there s.documents at.store seq b.entry b.numbered in
      let key : b.entry.0.key ≡ found.key = ap (λ (f : Found). f.key) b.is in (
        get_is s file at found.key b.entry.1 fits b.there (subst (λ k. doc_at s.documents at.store k ≡ Some b.entry.1) key is.there)
            ∙ ap (λ k. Document (found_of k b.entry.1)) (sym key) ∙ ap Document b.is,
        ap (λ (f : Found). f.seq) (sym b.is) ∙ is.numbered,
      ),
  λ e.
      let g = get_tells s file at found.key found e.0 in
      let seq_of_doc : g.doc.seq ≡ seq = ap (λ (f : Found). f.seq) g.is ∙ e.1 in
      let entry = (some_is (doc_numbered s.documents at.store seq)).0 ((seq_is s.documents at.store seq).1 (found.key, g.doc, g.at_key, seq_of_doc)) in
      let is = numbered_there s.documents at.store seq entry.0 entry.1 in
      let same : key_at at.store entry.0.0.key ≡ key_at at.store found.key =
      rules.now.apart (key_at at.store entry.0.0.key) (key_at at.store found.key) entry.0.1 g.doc is.there g.at_key refl (is.numbered ∙ sym seq_of_doc) in
      let key : entry.0.0.key ≡ found.key = ap (λ (k : DocKey). k.key) same in
      let doc : entry.0.1 ≡ g.doc = same_Some entry.0.1 g.doc (sym is.there ∙ ap (finite.get s.documents) same ∙ g.at_key) in
      by_seq_is s file at seq entry.0 g.there entry.1 ∙ (λ i. Document (found_of (key i) (doc i))) ∙ ap Document g.is,
)

pub returns-clause-got : goal.returns-clause-got
returns-clause-got c = get_tells_document

pub returns-clause-info : goal.returns-clause-info
returns-clause-info c = info_tells

pub returns-clause-markers : goal.returns-clause-markers
returns-clause-markers c = markers_tell

pub returns-clause-numbered : goal.returns-clause-numbered
returns-clause-numbered c = by_seq_tells

pub returns-clause-one : goal.returns-clause-one
returns-clause-one c = one_document
