use Rattle.std.proofs.Common.{sym, ap, ◌∙◌}
use Rattle.std.specs.FinMap as finite
use Rattle.forest_model.proofs.FiniteMaps.{get_is_lookup, one_removed}
use Rattle.forest_model.proofs.KeyOrder.{keys_total, exact_keys}
use Rattle.forest_model.proofs.documents.Documents.remove.Goals as goal

pub returns-clause-before : goal.returns-clause-before
returns-clause-before c =
    c.remove.ensures.value ∙ sym (get_is_lookup keys_total c.self.inside.entries.entries c.args.key.now)
    ∙ ap (λ m. finite.get m c.args.key.now) c.self.view_is

pub returns-clause-removed : goal.returns-clause-removed
returns-clause-removed c =
    one_removed keys_total exact_keys c.self.inside.entries.entries c.remove.new.self.entries c.args.key.now c.remove.ensures.updates.0
    ∙ ap (λ m. finite.remove m c.args.key.now) c.self.view_is
