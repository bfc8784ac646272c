-- A read answers what the step answers.
use Rattle.std.proofs.Common.{◌≡◌, ℕ, Bool, List, refl, sym, ap, ◌∙◌, subst, inl, inr}
use Rattle.std.specs.Prelude.{Result, Ok, Err, IsTrue}
use Rattle.block_host.specs.Disk.{Disk}
use Rattle.block_host.specs.declared.block.Block.{Block}
use Rattle.doc_stream.specs.Causes.{BreaksRecord, Reason}
use Rattle.doc_stream.specs.OpenBlock.{OpenBlock}
use Rattle.forest_model.specs.Step.{found_of, step_with_room}
use Rattle.forest_model.specs.declared.call.Call.{Call}
use Rattle.forest_model.specs.declared.call.Found.{Found}
use Rattle.forest_model.specs.declared.call.Reply.TheVariants.{Document, Refused}
use Rattle.forest_model.specs.declared.call.StoreRef.{StoreRef}
use Rattle.forest_model.specs.declared.documents.DocKey.{DocKey}
use Rattle.forest_model.specs.declared.documents.Doc.{Doc}
use Rattle.forest_model.specs.declared.refusal.Refusal.{Refusal}
use Rattle.forest_model.specs.declared.state.State.{State}
use Rattle.forest_model.specs.declared.stored.Entry.{Entry}
use Rattle.wal_index.specs.Index.{key_at}
use Rattle.file_parts.specs.Held.{Held}
use Rattle.file_parts.specs.Lookup.{entry_of_key, LooksUpNumber, FindsRecord}
use Rattle.file_core.specs.Reads.{ReadFails, ReadsAs}
use Rattle.file_documents.specs.Setting.{put_of}
use Rattle.file_core.specs.Stands.{IsKept, Stands}
use Rattle.file_core.proofs.Standing.{KeyAnswers, key_answers, number_refused, number_found, number_absent}

refuses : (told : Bool) (s : State) (call : Call) (revision before after : ℕ) (why : Refusal) (result : Result Found Refusal) → result ≡ Err why → step_with_room s call ≡ (Refused why, s) → ReadsAs told s call revision before after result
refuses told s call revision before after why result is step = subst (ReadsAs told s call revision before after) (sym is) (record {
  found = tt;
  there = tt;
  refused = λ other refused. (let same : Refused why ≡ Refused other = ap (λ x. x.0) (sym step ∙ refused) in cc);
  reason = inl step;
})

-- what is found and what the step says differ in no way
not_refused : (s : State) (call : Call) (found : Found) (why : Refusal) → step_with_room s call ≡ (Document found, s) → step_with_room s call ≡ (Refused why, s) → ⊥
not_refused s call found why step is = let wrong : Document found ≡ Refused why = ap (λ x. x.0) (sym step ∙ is) in cc

module _ (told tells : Bool) (views : IsTrue told → IsTrue tells) (s : State) (call : Call) (k : DocKey) (e : Entry) (d : Doc) (revision before after : ℕ) (file : List Block) (tail : OpenBlock) (step : step_with_room s call ≡ (Document (found_of k.key d), s)) (kept : IsKept told revision file tail k e d) where
  fails : (why : Refusal) → Reason tells revision (BreaksRecord revision file tail e.address) before after why → ReadFails told revision before after why
  fails why reason = elim reason [
    | inl memory ↦ inl memory
    | inr other ↦ elim other [
      | inl fault ↦ inr (inl fault)
      | inr damaged ↦ inr (inr (damaged.0, damaged.1, λ t. (damaged.2 (views t)).broken file (put_of k d) refl (kept.there t)))
    ]
  ]

  pub document_read : (result : Result Found Refusal) → FindsRecord tells revision file tail e before after result → ReadsAs told s call revision before after result
  document_read (Ok found) finds =
      let same : IsTrue told → found ≡ found_of k.key d = λ t.
      finds.exact (views t) (put_of k d) (kept.there t) ∙ ap (λ n. record { seq = n; key = k.key; meta = d.meta; body = d.body }) kept.seq in
      record {
        found = λ t. step ∙ ap (λ f. (Document f, s)) (sym (same t));
        there = (found_of k.key d, step, finds.number ∙ kept.seq);
        refused = λ why is. absurd (not_refused s call (found_of k.key d) why step is);
        reason = tt;
      }
  document_read (Err why) finds = record {
    found = tt;
    there = tt;
    refused = λ other is. absurd (not_refused s call (found_of k.key d) other step is);
    reason = inr (fails why finds.reason);
  }

module _ (told : Bool) (p : Held) (disk : Disk) (file : List Block) (s : State) (stands : Stands told p disk file s) (at : StoreRef) (before after : ℕ) where
  pub key_refused : (key : List ℕ) (why : Refusal) (result : Result Found Refusal) → Err why ≡ entry_of_key p at key → result ≡ Err why → ReadsAs told s (Call.Get at key) p.revision before after result
  key_refused key why result is answers =
      refuses told s (Call.Get at key) p.revision before after why result answers
      (subst (KeyAnswers told p.revision file p.tail (key_at at.store key) s (step_with_room s (Call.Get at key))) (sym is) (key_answers told p disk file s at key stands))

  pub key_found : (tells : Bool) → (IsTrue told → IsTrue tells) → (key : List ℕ) (e : Entry) (result : Result Found Refusal) → Ok e ≡ entry_of_key p at key → FindsRecord tells p.revision file p.tail e before after result
      → ReadsAs told s (Call.Get at key) p.revision before after result
  key_found tells views key e result is finds =
      let answer = subst (KeyAnswers told p.revision file p.tail (key_at at.store key) s (step_with_room s (Call.Get at key))) (sym is) (key_answers told p disk file s at key stands) in
      document_read told tells views s (Call.Get at key) (key_at at.store key) e answer.0 p.revision before after file p.tail answer.1 answer.2 result finds

  pub number_refused_as : (seq : ℕ) (why : Refusal) (result : Result Found Refusal) → LooksUpNumber p at seq (Err why) → result ≡ Err why → ReadsAs told s (Call.BySeq at seq) p.revision before after result
  number_refused_as seq why result looked answers =
      refuses told s (Call.BySeq at seq) p.revision before after why result answers (elim looked.refused [
        | inl refused ↦ number_refused told p disk file s stands at seq why refused
        | inr absent ↦ number_absent told p disk file s stands at seq absent.0 absent.2 ∙ ap (λ w. (Refused w, s)) (sym absent.1)
      ])

  pub number_found_as : (tells : Bool) → (IsTrue told → IsTrue tells) → (seq : ℕ) (e : Entry) (result : Result Found Refusal) → LooksUpNumber p at seq (Ok e) → FindsRecord tells p.revision file p.tail e before after result
      → ReadsAs told s (Call.BySeq at seq) p.revision before after result
  number_found_as tells views seq e result looked finds =
      let there = looked.found in
      let answer = number_found told p disk file s stands at seq there.2 e there.0 there.1 there.3 in
      document_read told tells views s (Call.BySeq at seq) (key_at at.store there.2) e answer.0 p.revision before after file p.tail answer.1 answer.2 result finds
