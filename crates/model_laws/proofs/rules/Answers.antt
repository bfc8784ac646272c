use Rattle.std.proofs.Common.{◌≡◌, false, codes, nat_eq, refl, arith}
use Rattle.std.specs.Cmp.Lexicographic.{pointwise}
use Rattle.std.proofs.lemmas.Bool.{or_parts}
use Rattle.forest_model.specs.Documents.{key_at, after_items, doc_at, doc_numbered}
use Rattle.forest_model.specs.State.{IsState, retained, nothing_new}
use Rattle.forest_model.specs.Stores.{store_named, seq_of, from_number}
use Rattle.forest_model.specs.Step.{causes, answer, is_at, next_seq}
use Rattle.forest_model.specs.declared.call.Call.{Call}
use Rattle.forest_model.specs.declared.call.Call.TheVariants.{Set, Delete, Batch, Get, BySeq, Info, Markers, StoreOpen, StoreRemove, Commit, Rollback, SnapLatest, SnapAt, Begin, Delta, Switch, Cancel}
use Rattle.forest_model.specs.declared.state.State.{State}
use Rattle.model_laws.specs.Laws.{RulesStay}
use Rattle.model_laws.proofs.KeptDocuments.{set_kept, deleted_kept, batch_kept}
use Rattle.model_laws.proofs.Changes.{written_rules, opened_rules, closed_rules, committed_rules, rolled_back_rules, begun_rules, switched_rules, cancelled_rules}
use Rattle.model_laws.proofs.Steps.{NoneHolds, unmet, step_keeps, by_option, by_test}
use Rattle.model_laws.proofs.rules.Goals as goal

-- free has a part for each cause, in their order
answer_rules : (s : State) (call : Call) → IsState s → NoneHolds (causes s call) → IsState (answer s call).1
answer_rules s (Set at key meta body) h free =
    written_rules s _ at.store (next_seq s at) _ h (set_kept s.stores s.documents at.store (next_seq s at) key meta body h.now (unmet _ _ free.1.1.1.0) (omega arith))
answer_rules s (Delete at key) h free =
    written_rules s _ at.store (next_seq s at) _ h (deleted_kept s.stores s.documents at.store (next_seq s at) (key_at at.store key) h.now (omega arith))
answer_rules s (Batch at items) h free =
    by_option (λ x. IsState x.1) _ (after_items at.store items (seq_of s.stores at.store) s.documents) _
    (λ after e. written_rules s _ at.store after.0 after.1 h (batch_kept items s.stores s.documents at.store (seq_of s.stores at.store) after h.now (unmet _ _ free.1.1.1.0) refl e))
    (λ e. h)
answer_rules s (Get at key) h free = by_option (λ x. IsState x.1) _ (doc_at s.documents at.store key) _ (λ x e. h) (λ e. h)
answer_rules s (BySeq at seq) h free = by_option (λ x. IsState x.1) _ (doc_numbered s.documents at.store seq) _ (λ x e. h) (λ e. h)
answer_rules s (Info at) h free = h
answer_rules s Markers h free = h
answer_rules s (StoreOpen name read_only) h free =
    by_option (λ x. IsState x.1) _ (store_named s.stores name) _ (λ st e. h) (λ e. opened_rules s _ name h e (unmet _ _ free.1.1.1.0))
answer_rules s (StoreRemove at name) h free =
    let other : pointwise nat_eq name (codes "default") ≡ false = (or_parts _ _ (unmet _ _ free.1.0)).1 in
    by_option (λ x. IsState x.1) _ (store_named s.stores name) _ (λ st e. closed_rules s _ name st h e other) (λ e. h)
answer_rules s (Commit at) h free = by_test (λ x. IsState x.1) (nothing_new s) _ _ h (λ e. committed_rules s h)
answer_rules s (Rollback at number) h free =
    by_test (λ x. IsState x.1) (is_at s number) _ _ h
    (λ e. by_option (λ x. IsState x.1) _ (from_number number (retained s)) _ (λ target f. rolled_back_rules s number target h f (unmet _ _ free.1.1.1.0)) (λ f. h))
answer_rules s SnapLatest h free = h
answer_rules s (SnapAt at seq) h free = h
answer_rules s (Begin at) h free = begun_rules s h
answer_rules s (Delta ticket left) h free = h
answer_rules s (Switch at ticket left) h free = switched_rules s h
answer_rules s (Cancel at ticket) h free = cancelled_rules s h

rules_stay : RulesStay
rules_stay s file call h = step_keeps IsState s file call h (answer_rules s call h)

pub returns : goal.returns
returns c = rules_stay
