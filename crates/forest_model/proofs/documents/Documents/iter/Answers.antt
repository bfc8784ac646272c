use Rattle.std.proofs.Common.{sym, ap, ◌∙◌}
use Rattle.std.specs.FinMap as finite
use Rattle.forest_model.proofs.FiniteMaps.{entries_are}
use Rattle.forest_model.proofs.KeyOrder.{keys_total}
use Rattle.forest_model.proofs.documents.Documents.iter.Goals as goal

pub returns : goal.returns
returns c =
    c.iter.ensures.rest ∙ sym (entries_are keys_total c.self.inside.entries.entries c.iter.ensures.ordered)
    ∙ ap finite.entries c.self.view_is
