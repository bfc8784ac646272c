use Rattle.std.proofs.Common.{◌≡◌, ℕ, ◌+◌, ◌≤◌, Bool, true, false, List, [], ◌∷◌, None, ◌⊎◌, inl, inr, refl, sym, ap, subst, ◌∙◌, arith}
use Rattle.std.specs.Bool.{◌==◌}
use Rattle.std.proofs.lemmas.Bool.{eqb-true, eqb-false, true≢false}
use Rattle.forest_model.specs.State.{OfStore, retained, nothing_new}
use Rattle.forest_model.specs.Documents.{after_items, doc_at, doc_numbered}
use Rattle.forest_model.specs.Stores.{store_of, store_named, seq_of, with_seq, new_store, without, from_number}
use Rattle.forest_model.specs.Step.{answer, is_at}
use Rattle.forest_model.specs.declared.call.Call.{Call}
use Rattle.forest_model.specs.declared.call.Call.TheVariants.{Set, Delete, Batch, Get, BySeq, Info, Markers, StoreOpen, StoreRemove, Commit, Rollback, SnapLatest, SnapAt, Begin, Delta, Switch, Cancel}
use Rattle.forest_model.specs.declared.state.State.{State}
use Rattle.forest_model.specs.declared.state.Store.{Store}
use Rattle.model_laws.specs.Laws.{DrawnStay, SeqStays, is_rollback, state_after, after_all}
use Rattle.model_laws.proofs.OneByOne.{items_draw}
use Rattle.model_laws.proofs.Stores.{raised, of-added, gone-without, others-without}
use Rattle.model_laws.proofs.Steps.{step_keeps, by_option, by_test}
use Rattle.model_laws.proofs.draws.Goals as goal

-- the numbers to be drawn next are no lower
abbrev NoLower : State → State → Type 0
NoLower s after = (s.next_commit ≤ after.next_commit) × (s.next_store ≤ after.next_store) × (s.next_ticket ≤ after.next_ticket)

same : (s : State) → NoLower s s
same s = (omega arith, omega arith, omega arith)

chain : (s t u : State) → NoLower s t → NoLower t u → NoLower s u
chain s t u h k = (omega arith, omega arith, omega arith)

answer_draws : (s : State) (call : Call) → NoLower s (answer s call).1
answer_draws s (Set at key meta body) = same s
answer_draws s (Delete at key) = same s
answer_draws s (Batch at items) = by_option (λ x. NoLower s x.1) _ (after_items at.store items (seq_of s.stores at.store) s.documents) _ (λ x e. same s) (λ e. same s)
answer_draws s (Get at key) = by_option (λ x. NoLower s x.1) _ (doc_at s.documents at.store key) _ (λ x e. same s) (λ e. same s)
answer_draws s (BySeq at seq) = by_option (λ x. NoLower s x.1) _ (doc_numbered s.documents at.store seq) _ (λ x e. same s) (λ e. same s)
answer_draws s (Info at) = same s
answer_draws s Markers = same s
answer_draws s (StoreOpen name read_only) = by_option (λ x. NoLower s x.1) _ (store_named s.stores name) _ (λ x e. same s) (λ e. (omega arith, omega arith, omega arith))
answer_draws s (StoreRemove at name) = by_option (λ x. NoLower s x.1) _ (store_named s.stores name) _ (λ x e. same s) (λ e. same s)
answer_draws s (Commit at) = by_test (λ x. NoLower s x.1) (nothing_new s) _ _ (same s) (λ e. (omega arith, omega arith, omega arith))
answer_draws s (Rollback at number) =
    by_test (λ x. NoLower s x.1) (is_at s number) _ _ (same s) (λ e. by_option (λ x. NoLower s x.1) _ (from_number number (retained s)) _ (λ x f. same s) (λ f. same s))
answer_draws s SnapLatest = same s
answer_draws s (SnapAt at seq) = same s
answer_draws s (Begin at) = (omega arith, omega arith, omega arith)
answer_draws s (Delta ticket left) = same s
answer_draws s (Switch at ticket left) = same s
answer_draws s (Cancel at ticket) = same s

drawn_stay : DrawnStay
drawn_stay s [] = same s
drawn_stay s (c ∷ calls) =
    chain s (state_after s c.0 c.1) (after_all (state_after s c.0 c.1) calls) (step_keeps (NoLower s) s c.0 c.1 (same s) (λ h. answer_draws s c.1)) (drawn_stay (state_after s c.0 c.1) calls)

-- a store that has come to a number has done so afterwards, or is gone
abbrev Stays : List Store → List Store → Type 0
Stays stores after = (k n : ℕ) → OfStore (store_of stores k) (λ st. n ≤ st.seq) → (store_of after k ≡ None) ⊎ OfStore (store_of after k) (λ st. n ≤ st.seq)

without_stays : (stores : List Store) (id : ℕ) → Stays stores (without stores id)
without_stays stores id k n h = by (k == id) refl
  where
    by : (b : Bool) → (k == id) ≡ b → (store_of (without stores id) k ≡ None) ⊎ OfStore (store_of (without stores id) k) (λ st. n ≤ st.seq)
    by true e = inl (ap (store_of (without stores id)) (eqb-true k id e) ∙ gone-without stores id)
    by false e = inr (subst (λ o. OfStore o (λ st. n ≤ st.seq)) (sym (others-without stores id k (eqb-false k id e))) h)

raised_stays : (stores : List Store) (id seq : ℕ) → seq_of stores id ≤ seq → Stays stores (with_seq stores id seq)
raised_stays stores id seq le k n h = inr (raised stores id seq k n le h)

answer_seqs : (s : State) (call : Call) → is_rollback call ≡ false → Stays s.stores (answer s call).1.stores
answer_seqs s (Set at key meta body) r = raised_stays s.stores at.store (seq_of s.stores at.store + 1) (omega arith)
answer_seqs s (Delete at key) r = raised_stays s.stores at.store (seq_of s.stores at.store + 1) (omega arith)
answer_seqs s (Batch at items) r =
    by_option (λ x. Stays s.stores x.1.stores) _ (after_items at.store items (seq_of s.stores at.store) s.documents) _
    (λ after e. let drawn = items_draw at.store items (seq_of s.stores at.store) s.documents after e in raised_stays s.stores at.store after.0 (omega (arith, drawn)))
    (λ e k n h. inr h)
answer_seqs s (Get at key) r = by_option (λ x. Stays s.stores x.1.stores) _ (doc_at s.documents at.store key) _ (λ x e k n h. inr h) (λ e k n h. inr h)
answer_seqs s (BySeq at seq) r = by_option (λ x. Stays s.stores x.1.stores) _ (doc_numbered s.documents at.store seq) _ (λ x e k n h. inr h) (λ e k n h. inr h)
answer_seqs s (Info at) r = λ k n h. inr h
answer_seqs s Markers r = λ k n h. inr h
answer_seqs s (StoreOpen name read_only) r =
    by_option (λ x. Stays s.stores x.1.stores) _ (store_named s.stores name) _ (λ x e k n h. inr h)
    (λ e k n h. inr (of-added (λ st. n ≤ st.seq) s.stores (new_store s.next_store name) k h))
answer_seqs s (StoreRemove at name) r =
    by_option (λ x. Stays s.stores x.1.stores) _ (store_named s.stores name) _ (λ st e. without_stays s.stores st.id) (λ e k n h. inr h)
answer_seqs s (Commit at) r = by_test (λ x. Stays s.stores x.1.stores) (nothing_new s) _ _ (λ k n h. inr h) (λ e k n h. inr h)
answer_seqs s (Rollback at number) r = absurd (true≢false r)
answer_seqs s SnapLatest r = λ k n h. inr h
answer_seqs s (SnapAt at seq) r = λ k n h. inr h
answer_seqs s (Begin at) r = λ k n h. inr h
answer_seqs s (Delta ticket left) r = λ k n h. inr h
answer_seqs s (Switch at ticket left) r = λ k n h. inr h
answer_seqs s (Cancel at ticket) r = λ k n h. inr h

seq_stays : SeqStays
seq_stays s file call id n r = step_keeps (λ x. Stays s.stores x.stores) s file call (λ k m h. inr h) (λ free. answer_seqs s call r) id n

pub returns-clause-seqs : goal.returns-clause-seqs
returns-clause-seqs c = seq_stays

pub returns-clause-stay : goal.returns-clause-stay
returns-clause-stay c = drawn_stay
