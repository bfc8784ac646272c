-- A call is answered exactly where none of its causes holds, and then as its answer says.
use Rattle.std.proofs.Common.{◌≡◌, [], ◌∷◌, List, Option, Some, None, refl, sym, subst}
use Rattle.std.proofs.lemmas.Option.{none-some}
use Rattle.forest_model.specs.Documents.{after_items, doc_at, doc_numbered}
use Rattle.forest_model.specs.State.{retained, nothing_new}
use Rattle.forest_model.specs.Stores.{store_named, seq_of, from_number}
use Rattle.forest_model.specs.Step.{Outcome, first_cause, refused_or, causes, answer, full, step_of, is_at}
use Rattle.forest_model.specs.Blocks.{File}
use Rattle.forest_model.specs.declared.call.Call.{Call}
use Rattle.forest_model.specs.declared.call.Call.TheVariants.{Set, Delete, Batch, Get, BySeq, Info, Markers, StoreOpen, StoreRemove, Commit, Rollback, SnapLatest, SnapAt, Begin, Delta, Switch, Cancel}
use Rattle.forest_model.specs.declared.refusal.Refusal.{Refusal}
use Rattle.forest_model.specs.declared.state.State.{State}
use Rattle.model_laws.specs.Laws.{reply_to}
use Rattle.model_laws.specs.Answered.{IsAnswered}
use Rattle.model_laws.proofs.Conditions.{not_found}
use Rattle.model_laws.proofs.Steps.{NoneHolds, none_holds, unmet, by_option, by_test}

-- no cause holds, and the file isn't full
pub record IsFree (s : State) (file : File) (call : Call) : Type 0 where
  pub causes : NoneHolds (causes s call)
  pub room : full s file call ≡ None

first_none : (causes : List (Option Refusal)) → NoneHolds causes → first_cause causes ≡ None
first_none [] h = refl
first_none (None ∷ causes) h = first_none causes h.1
first_none (Some why ∷ causes) h = absurd (none-some why (sym h.0))

pub free_step : (s : State) (file : File) (call : Call) → IsFree s file call → step_of s file call ≡ answer s call
free_step s file call h = λ i. refused_or (first_none (causes s call) h.causes i) s (refused_or (h.room i) s (answer s call))

-- an answer that no cause stands against is no refusal
pub answer_answers : (s : State) (call : Call) → NoneHolds (causes s call) → IsAnswered (answer s call).0
answer_answers s (Set at key meta body) h = λ why e. cc
answer_answers s (Delete at key) h = λ why e. cc
answer_answers s (Batch at items) h =
    by_option (λ x. IsAnswered x.0) _ (after_items at.store items (seq_of s.stores at.store) s.documents) _ (λ x e why f. cc)
    (λ e. absurd (not_found _ (unmet _ _ h.1.1.1.1.1.0) e))
answer_answers s (Get at key) h =
    by_option (λ x. IsAnswered x.0) _ (doc_at s.documents at.store key) _ (λ x e why f. cc) (λ e. absurd (not_found _ (unmet _ _ h.1.1.0) e))
answer_answers s (BySeq at seq) h =
    by_option (λ x. IsAnswered x.0) _ (doc_numbered s.documents at.store seq) _ (λ x e why f. cc) (λ e. absurd (not_found _ (unmet _ _ h.1.0) e))
answer_answers s (Info at) h = λ why e. cc
answer_answers s Markers h = λ why e. cc
answer_answers s (StoreOpen name read_only) h = by_option (λ x. IsAnswered x.0) _ (store_named s.stores name) _ (λ x e why f. cc) (λ e why f. cc)
answer_answers s (StoreRemove at name) h =
    by_option (λ x. IsAnswered x.0) _ (store_named s.stores name) _ (λ x e why f. cc) (λ e. absurd (not_found _ (unmet _ _ h.1.1.0) e))
answer_answers s (Commit at) h = by_test (λ x. IsAnswered x.0) (nothing_new s) _ _ (λ why e. cc) (λ e why f. cc)
answer_answers s (Rollback at number) h =
    by_test (λ x. IsAnswered x.0) (is_at s number) _ _ (λ why e. cc)
    (λ e. by_option (λ x. IsAnswered x.0) _ (from_number number (retained s)) _ (λ x f why g. cc) (λ f. absurd (not_found _ (unmet _ _ h.1.1.0) f)))
answer_answers s SnapLatest h = λ why e. cc
answer_answers s (SnapAt at seq) h = λ why e. cc
answer_answers s (Begin at) h = λ why e. cc
answer_answers s (Delta ticket left) h = λ why e. cc
answer_answers s (Switch at ticket left) h = λ why e. cc
answer_answers s (Cancel at ticket) h = λ why e. cc

pub free_answered : (s : State) (file : File) (call : Call) → IsFree s file call → IsAnswered (reply_to s file call)
free_answered s file call h = subst (λ (o : Outcome). IsAnswered o.0) (sym (free_step s file call h)) (answer_answers s call h.causes)

both_none : (a b : Option Refusal) (s : State) (outcome : Outcome) → IsAnswered (refused_or a s (refused_or b s outcome)).0 → (a ≡ None) × (b ≡ None)
both_none None None s outcome h = (refl, refl)
both_none None (Some why) s outcome h = absurd (h why refl)
both_none (Some why) b s outcome h = absurd (h why refl)

pub answered_free : (s : State) (file : File) (call : Call) → IsAnswered (reply_to s file call) → IsFree s file call
answered_free s file call h =
    let n = both_none (first_cause (causes s call)) (full s file call) s (answer s call) h in
    record { causes = none_holds (causes s call) n.0; room = n.1 }

-- what holds of the answer of a call that is answered holds of the step
pub answered_has : (P : Outcome → Type 0) (s : State) (file : File) (call : Call) → IsAnswered (reply_to s file call) → (NoneHolds (causes s call) → P (answer s call)) → P (step_of s file call)
answered_has P s file call h k = let f = answered_free s file call h in subst P (sym (free_step s file call f)) (k f.causes)
