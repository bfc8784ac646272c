use Rattle.std.proofs.Common.{◌≡◌, false, cond, refl, sym, ap, subst}
use Rattle.std.proofs.lemmas.Bool.{cond-true, false_from_ne_true}
use Rattle.forest_model.specs.State.{nothing_new}
use Rattle.forest_model.specs.Step.{Outcome, committed}
use Rattle.forest_model.specs.declared.call.Call.TheVariants.{Commit}
use Rattle.forest_model.specs.declared.call.Reply.TheVariants.{Committed}
use Rattle.model_laws.specs.Commits.{CommitKeeps, CommitAgain, IsCommitted}
use Rattle.model_laws.proofs.Conditions.{is_new}
use Rattle.model_laws.proofs.Free.{answered_has}
use Rattle.model_laws.proofs.new_commits.Goals as goal

commit_keeps : CommitKeeps
commit_keeps s file at new h =
    let is : nothing_new s ≡ false = false_from_ne_true (nothing_new s) (λ e. new ((is_new s).0 e)) in
    answered_has (λ o. IsCommitted s o.1 o.0) s file (Commit at) h
    (λ free. subst (λ b. IsCommitted s (cond {A = Outcome} b (Committed s.last.number, s) (Committed s.next_commit, committed s)).1 (cond {A = Outcome} b (Committed s.last.number, s) (Committed s.next_commit, committed s)).0) (sym is)
    (record { answers = refl; commits = refl; next = refl; written = (refl, refl); rest = refl }))

commit_again : CommitAgain
commit_again s file at same h =
    answered_has (λ o. (o.0 ≡ Committed s.last.number) × (o.1 ≡ s)) s file (Commit at) h
    (λ free. let is = cond-true {A = Outcome} (nothing_new s) (Committed s.last.number, s) (Committed s.next_commit, committed s) ((is_new s).1 same) in
    (ap (λ (o : Outcome). o.0) is, ap (λ (o : Outcome). o.1) is))

pub returns-clause-kept : goal.returns-clause-kept
returns-clause-kept c = commit_keeps

pub returns-clause-again : goal.returns-clause-again
returns-clause-again c = commit_again
