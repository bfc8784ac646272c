use Rattle.std.proofs.Common.{sym, ap, ◌∙◌}
use Rattle.std.specs.FinMap as finite
use Rattle.forest_model.proofs.FiniteMaps.{get_is_lookup, one_put}
use Rattle.forest_model.proofs.KeyOrder.{keys_total, exact_keys}
use Rattle.forest_model.proofs.documents.Documents.insert.Goals as goal

pub returns-clause-before : goal.returns-clause-before
returns-clause-before c =
    c.in_ok-insert.ensures.old ∙ sym (get_is_lookup keys_total c.self.inside.entries.entries c.args.key)
    ∙ ap (λ m. finite.get m c.args.key) c.self.view_is

pub returns-clause-ok : goal.returns-clause-ok
returns-clause-ok c =
    one_put keys_total exact_keys c.self.inside.entries.entries c.insert.new.self.entries c.args.key c.args.doc c.in_ok-insert.ensures.updates.0
    ∙ ap (λ m. finite.insert m c.args.key c.args.doc) c.self.view_is
