use Rattle.std.proofs.Common.{sym, ap, ◌∙◌}
use Rattle.forest_model.specs.Documents.{is_of, count_of}
use Rattle.forest_model.proofs.FiniteMaps.{entries_are}
use Rattle.forest_model.proofs.KeyOrder.{keys_total}
use Rattle.std.specs.Prelude.{count_by}
use Rattle.forest_model.proofs.documents.Documents.count_of.Goals as goal

pub returns : goal.returns
returns c =
    c.count_in.ensures ∙ sym (ap (count_by (is_of c.args.store)) (entries_are keys_total c.self.inside.entries.entries c.len-ordered.ensures.ordered))
    ∙ ap (λ m. count_of m c.args.store) c.self.view_is
