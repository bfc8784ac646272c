use Rattle.std.proofs.Common.{not, ◌==◌, ap, ◌∙◌}
use Rattle.std.specs.FinMap as finite
use Rattle.forest_model.specs.Documents.{without_store}
use Rattle.forest_model.proofs.FiniteMaps.{some_kept}
use Rattle.forest_model.proofs.KeyOrder.{keys_total, exact_keys}
use Rattle.forest_model.proofs.documents.Documents.remove_store.Goals as goal

pub returns : goal.returns
returns c =
    ap finite.from_entries c.retain_others.ensures
    ∙ some_kept keys_total exact_keys c.self.inside.entries.entries (λ k. not (k.store == c.args.store))
    ∙ ap (λ m. without_store m c.args.store) c.self.view_is
