use Rattle.std.proofs.Common.{refl}
use Rattle.std.specs.FinMap as finite
use Rattle.forest_model.specs.Documents.{key_at, doc_at}
use Rattle.forest_model.specs.Step.{answer, next_seq}
use Rattle.forest_model.specs.declared.call.Call.TheVariants.{Delete}
use Rattle.model_laws.specs.Writes.{DeleteTakes, IsDeleted}
use Rattle.model_laws.proofs.Conditions.{some_is}
use Rattle.model_laws.proofs.Free.{answered_has}
use Rattle.model_laws.proofs.FreeWrites.{key_bytes}
use Rattle.model_laws.proofs.Keys.{removed_own, removed_other}
use Rattle.model_laws.proofs.Steps.{unmet}
use Rattle.model_laws.proofs.Writing.{written_draws, appends_are}
use Rattle.model_laws.proofs.deletes.Goals as goal

delete_takes : DeleteTakes
delete_takes s file at key h =
    answered_has (λ o. IsDeleted s o.1 o.0 at.store key) s file (Delete at key) h
    (λ free. record {
      draws = written_draws s at (next_seq s at) 1 (finite.remove s.documents (key_at at.store key)) _ (unmet _ _ free.1.1.0) refl;
      was = (some_is (doc_at s.documents at.store key)).0 (unmet _ _ free.1.1.1.1.0);
      gone = removed_own s.documents (key_at at.store key);
      others = removed_other s.documents (key_at at.store key);
      appends = appends_are s (answer s (Delete at key)).1 _ _ (key_bytes key) refl;
    })

pub returns : goal.returns
returns c = delete_takes
