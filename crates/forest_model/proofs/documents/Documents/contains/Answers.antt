use Rattle.std.proofs.Common.{sym, ap, ◌∙◌}
use Rattle.std.specs.FinMap as finite
use Rattle.forest_model.proofs.FiniteMaps.{get_is_lookup}
use Rattle.forest_model.proofs.KeyOrder.{keys_total}
use Rattle.std.specs.Prelude.{is_some}
use Rattle.forest_model.proofs.documents.Documents.contains.Goals as goal

pub returns : goal.returns
returns c =
    c.contains_key.ensures ∙ ap is_some (sym (get_is_lookup keys_total c.self.inside.entries.entries c.args.key.now))
    ∙ ap (λ m. finite.contains_key m c.args.key.now) c.self.view_is
