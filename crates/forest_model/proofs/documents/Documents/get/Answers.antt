use Rattle.std.proofs.Common.{sym, ap, ◌∙◌}
use Rattle.std.specs.FinMap as finite
use Rattle.forest_model.proofs.FiniteMaps.{get_is_lookup}
use Rattle.forest_model.proofs.KeyOrder.{keys_total}
use Rattle.forest_model.proofs.documents.Documents.get.Goals as goal

pub returns : goal.returns
returns c =
    c.get.ensures.value ∙ sym (get_is_lookup keys_total c.self.inside.entries.entries c.args.key.now)
    ∙ ap (λ m. finite.get m c.args.key.now) c.self.view_is
