use Rattle.std.proofs.Common.{length, sym, ap, ◌∙◌}
use Rattle.std.specs.FinMap as finite
use Rattle.forest_model.proofs.FiniteMaps.{entries_are}
use Rattle.forest_model.proofs.KeyOrder.{keys_total}
use Rattle.forest_model.proofs.documents.Documents.len.Goals as goal

pub returns : goal.returns
returns c =
    c.len.ensures.len ∙ sym (finite.len-entries _ ∙ ap length (entries_are keys_total c.self.inside.entries.entries c.len.ensures.ordered))
    ∙ ap finite.len c.self.view_is
