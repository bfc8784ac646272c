use Rattle.std.proofs.Common.{sym, ap, ◌∙◌}
use Rattle.forest_model.specs.Documents.{is_numbered, doc_numbered}
use Rattle.forest_model.proofs.FiniteMaps.{entries_are}
use Rattle.forest_model.proofs.KeyOrder.{keys_total}
use Rattle.std.specs.Prelude.{find}
use Rattle.forest_model.proofs.documents.Documents.numbered.Goals as goal

pub returns : goal.returns
returns c =
    c.numbered_in.ensures ∙ sym (ap (find (is_numbered c.args.store c.args.seq)) (entries_are keys_total c.self.inside.entries.entries c.len-ordered.ensures.ordered))
    ∙ ap (λ m. doc_numbered m c.args.store c.args.seq) c.self.view_is
