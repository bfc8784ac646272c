use Rattle.std.proofs.Common.{◌≡◌, false, Some, refl, sym, ap, subst, ◌∙◌}
use Rattle.std.specs.Option.{is_none}
use Rattle.forest_model.specs.Limits.{is_wrong_key}
use Rattle.forest_model.specs.Documents.{key_at, doc_of, doc_at}
use Rattle.forest_model.specs.Stores.{store_of}
use Rattle.forest_model.specs.Step.{Outcome, answer, next_seq, found_of}
use Rattle.forest_model.specs.declared.call.Call.TheVariants.{Set, Get}
use Rattle.forest_model.specs.declared.call.Reply.TheVariants.{Seq, Document}
use Rattle.model_laws.specs.Laws.{SetIsGot, OthersStay, reply_to}
use Rattle.model_laws.specs.Writes.{SetDraws, IsSet}
use Rattle.model_laws.proofs.Free.{answered_has}
use Rattle.model_laws.proofs.Keys.{got_own, got_other}
use Rattle.model_laws.proofs.Stores.{gone-with_seq}
use Rattle.model_laws.proofs.Steps.{unmet, step_keeps, step_answers, get_reply, get_says}
use Rattle.model_laws.proofs.Writing.{written_draws, appends_are}
use Rattle.model_laws.proofs.sets.Goals as goal

set_draws : SetDraws
set_draws s file at key meta body h =
    answered_has (λ o. IsSet s o.1 o.0 at.store key meta body) s file (Set at key meta body) h
    (λ free. record {
      draws = written_draws s at (next_seq s at) 1 _ _ (unmet _ _ free.1.1.1.0) refl;
      own = got_own s.documents (key_at at.store key) (doc_of (next_seq s at) meta body);
      others = λ k n. got_other s.documents (key_at at.store key) k (doc_of (next_seq s at) meta body) n;
      appends = appends_are s (answer s (Set at key meta body)).1 _ _ refl refl;
    })

set_is_got : SetIsGot
set_is_got s file later at by key meta body seq e same =
    let call = Set at key meta body in
    let a = step_answers s file call (Seq seq) (λ why h. cc) e in
    let drawn : next_seq s at ≡ seq = cc (ap (λ (o : Outcome). o.0) (sym a.1) ∙ e) in
    let after = (answer s call).1 in
    let long : is_wrong_key key ≡ false = unmet _ _ a.0.1.0 in
    let gone : is_none (store_of after.stores by.store) ≡ false =
    gone-with_seq s.stores at.store (next_seq s at) by.store ∙ ap (λ k. is_none (store_of s.stores k)) same ∙ unmet _ _ a.0.1.1.1.0 in
    let found : doc_at after.documents by.store key ≡ Some (doc_of seq meta body) =
    ap (λ k. doc_at after.documents k key) same ∙ got_own s.documents (key_at at.store key) (doc_of (next_seq s at) meta body) ∙ ap (λ n. Some (doc_of n meta body)) drawn in
    let got = get_says after later by key ∙ (λ i. get_reply key (long i) (gone i) (found i)) in
    subst (λ (o : Outcome). reply_to o.1 later (Get by key) ≡ Document (found_of key (doc_of seq meta body))) (sym a.1) got

others_stay : OthersStay
others_stay s file later at by key meta body other n =
    let stores = gone-with_seq s.stores at.store (next_seq s at) by.store in
    let documents = got_other s.documents (key_at at.store key) (key_at by.store other) (doc_of (next_seq s at) meta body) n in
    step_keeps (λ x. reply_to x later (Get by other) ≡ reply_to s later (Get by other)) s file (Set at key meta body) refl
    (λ e. get_says (answer s (Set at key meta body)).1 later by other
    ∙ (λ i. get_reply other (is_wrong_key other) (stores i) (documents i))
    ∙ sym (get_says s later by other))

pub returns-clause-draws : goal.returns-clause-draws
returns-clause-draws c = set_draws

pub returns-clause-got : goal.returns-clause-got
returns-clause-got c = set_is_got

pub returns-clause-others : goal.returns-clause-others
returns-clause-others c = others_stay
