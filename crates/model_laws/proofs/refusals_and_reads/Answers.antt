use Rattle.std.proofs.Common.{◌≡◌, ◌+◌, ◌⊎◌, inl, inr, refl, sym}
use Rattle.forest_model.specs.Documents.{after_items, doc_at, doc_numbered}
use Rattle.forest_model.specs.State.{retained, nothing_new}
use Rattle.forest_model.specs.Stores.{store_named, seq_of, from_number}
use Rattle.forest_model.specs.Step.{Outcome, answer, is_at, step_of}
use Rattle.forest_model.specs.Blocks.{File}
use Rattle.forest_model.specs.declared.call.Call.{Call}
use Rattle.forest_model.specs.declared.call.Call.TheVariants.{Set, Delete, Batch, Get, BySeq, Info, Markers, StoreOpen, StoreRemove, Commit, Rollback, SnapLatest, SnapAt, Begin, Delta, Switch, Cancel}
use Rattle.forest_model.specs.declared.state.State.{State}
use Rattle.model_laws.specs.Laws.{RefusedLeaves, PlaceTells}
use Rattle.model_laws.specs.Answered.{IsAnswered}
use Rattle.model_laws.proofs.Steps.{step_holds, by_option, by_test}
use Rattle.model_laws.proofs.refusals_and_reads.Goals as goal

-- nothing has changed, or the place is one further and the reply is no refusal
abbrev Tells : State → Outcome → Type 0
Tells s outcome = (outcome.1 ≡ s) ⊎ ((outcome.1.place ≡ s.place + 1) × IsAnswered outcome.0)

answer_tells : (s : State) (call : Call) → Tells s (answer s call)
answer_tells s (Set at key meta body) = inr (refl, λ why e. cc)
answer_tells s (Delete at key) = inr (refl, λ why e. cc)
answer_tells s (Batch at items) = by_option (Tells s) _ (after_items at.store items (seq_of s.stores at.store) s.documents) _ (λ x e. inr (refl, λ why f. cc)) (λ e. inl refl)
answer_tells s (Get at key) = by_option (Tells s) _ (doc_at s.documents at.store key) _ (λ x e. inl refl) (λ e. inl refl)
answer_tells s (BySeq at seq) = by_option (Tells s) _ (doc_numbered s.documents at.store seq) _ (λ x e. inl refl) (λ e. inl refl)
answer_tells s (Info at) = inl refl
answer_tells s Markers = inl refl
answer_tells s (StoreOpen name read_only) = by_option (Tells s) _ (store_named s.stores name) _ (λ x e. inl refl) (λ e. inr (refl, λ why f. cc))
answer_tells s (StoreRemove at name) = by_option (Tells s) _ (store_named s.stores name) _ (λ x e. inr (refl, λ why f. cc)) (λ e. inl refl)
answer_tells s (Commit at) = by_test (Tells s) (nothing_new s) _ _ (inl refl) (λ e. inr (refl, λ why f. cc))
answer_tells s (Rollback at number) =
    by_test (Tells s) (is_at s number) _ _ (inl refl)
    (λ e. by_option (Tells s) _ (from_number number (retained s)) _ (λ x f. inr (refl, λ why g. cc)) (λ f. inl refl))
answer_tells s SnapLatest = inl refl
answer_tells s (SnapAt at seq) = inl refl
answer_tells s (Begin at) = inr (refl, λ why e. cc)
answer_tells s (Delta ticket left) = inl refl
answer_tells s (Switch at ticket left) = inr (refl, λ why e. cc)
answer_tells s (Cancel at ticket) = inr (refl, λ why e. cc)

step_tells : (s : State) (file : File) (call : Call) → Tells s (step_of s file call)
step_tells s file call = step_holds (Tells s) s file call (λ why. inl refl) (λ h. answer_tells s call)

refused_leaves : RefusedLeaves
refused_leaves s file call why e = elim (step_tells s file call) [
  | inl same ↦ same
  | inr told ↦ absurd (told.1 why (sym e))
]

place_tells : PlaceTells
place_tells s file call = elim (step_tells s file call) [
  | inl same ↦ inr same
  | inr told ↦ inl told.0
]

pub returns-clause-refused : goal.returns-clause-refused
returns-clause-refused c = refused_leaves

pub returns-clause-place : goal.returns-clause-place
returns-clause-place c = place_tells
