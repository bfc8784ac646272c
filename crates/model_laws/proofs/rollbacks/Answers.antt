use Rattle.std.proofs.Common.{◌≡◌, ℕ, Bool, true, false, cond, List, [], Option, Some, None, ◌==◌, inl, inr, refl, sym, ap}
use Rattle.std.specs.Option.{is_none, option_map_or}
use Rattle.std.proofs.lemmas.Bool.{and_parts, and_from, cond-true, eqb-true, eq-eqb, true≢false}
use Rattle.forest_model.specs.State.{retained, nothing_new}
use Rattle.forest_model.specs.Stores.{from_number}
use Rattle.forest_model.specs.Step.{Outcome, is_at, rolled_back}
use Rattle.forest_model.specs.declared.call.Call.TheVariants.{Rollback}
use Rattle.forest_model.specs.declared.call.Reply.TheVariants.{Rolled, Refused}
use Rattle.forest_model.specs.declared.refusal.Refusal.TheVariants.{NoCommit}
use Rattle.forest_model.specs.declared.state.Commit.{Commit}
use Rattle.forest_model.specs.declared.state.State.{State}
use Rattle.model_laws.specs.Commits.{RollbackReturns, RollbackAgain, IsRolledBack}
use Rattle.model_laws.proofs.Commits.{from_number_is}
use Rattle.model_laws.proofs.Conditions.{nothing_copied, is_new}
use Rattle.model_laws.proofs.Free.{answered_has}
use Rattle.model_laws.proofs.Same.{nothing_new_decides}
use Rattle.model_laws.proofs.Steps.{unmet}
use Rattle.model_laws.proofs.rollbacks.Goals as goal

-- nothing is new, and the number is the last commit's
stays : (s : State) (number : ℕ) → s.copying ≡ None → is_at s number ≡ true → IsRolledBack s s (Rolled number) number
stays s number idle h =
    let parts = and_parts _ (nothing_new s) h in
    let same = (nothing_new_decides s).0 parts.1 in
    record {
      answers = refl;
      target = s.last;
      newer = [];
      older = s.earlier;
      named = sym (eqb-true number s.last.number parts.0);
      among = refl;
      commits = refl;
      stores = same.0;
      documents = same.1;
      drawn = (refl, refl, refl);
      file = (refl, refl, refl);
      idle = (idle, idle);
      written = inl refl;
    }

found : (s : State) (number : ℕ) (target : Commit × List Commit) → s.copying ≡ None → from_number number (retained s) ≡ Some target → IsRolledBack s (rolled_back s target) (Rolled number) number
found s number target idle e =
    let from = from_number_is number (retained s) target e in
    record {
      answers = refl;
      target = target.0;
      newer = from.newer;
      older = target.1;
      named = from.named;
      among = from.among;
      commits = refl;
      stores = refl;
      documents = refl;
      drawn = (refl, refl, refl);
      file = (refl, refl, refl);
      idle = (idle, idle);
      written = inr (refl, refl, refl);
    }

-- the answer of a rollback that isn't refused
abbrev Leaves : State → ℕ → Outcome → Type 0
Leaves s number o = IsRolledBack s o.1 o.0 number

by_answer : (s : State) (number : ℕ) (b : Bool) (target : Option (Commit × List Commit)) → s.copying ≡ None → is_at s number ≡ b → from_number number (retained s) ≡ target → is_none target ≡ false
    → Leaves s number (cond {A = Outcome} b (Rolled number, s) (option_map_or (λ t. (Rolled number, rolled_back s t)) target (Refused NoCommit, s)))
by_answer s number true target idle h e n = stays s number idle h
by_answer s number false None idle h e n = absurd (true≢false n)
by_answer s number false (Some target) idle h e n = found s number target idle e

rollback_returns : RollbackReturns
rollback_returns s file at number h =
    answered_has (Leaves s number) s file (Rollback at number) h
    (λ free. by_answer s number (is_at s number) (from_number number (retained s)) ((nothing_copied s.copying).0 (unmet _ _ free.1.1.1.0)) refl refl (unmet _ _ free.1.1.0))

rollback_again : RollbackAgain
rollback_again s file at number named same h =
    let here : is_at s number ≡ true = and_from (number == s.last.number) (nothing_new s) (eq-eqb number s.last.number named) ((is_new s).1 same) in
    answered_has (λ o. o.1 ≡ s) s file (Rollback at number) h
    (λ free. ap (λ (o : Outcome). o.1) (cond-true {A = Outcome} (is_at s number) (Rolled number, s) (option_map_or (λ t. (Rolled number, rolled_back s t)) (from_number number (retained s)) (Refused NoCommit, s)) here))

pub returns-clause-returned : goal.returns-clause-returned
returns-clause-returned c = rollback_returns

pub returns-clause-again : goal.returns-clause-again
returns-clause-again c = rollback_again
