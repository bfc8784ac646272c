use Rattle.std.proofs.Common.{not, ◌==◌}
use Rattle.std.proofs.Common.{rules}
use Rattle.std.proofs.lemmas.Map.Made.{filter_same_pairs}
use Rattle.forest_model.proofs.documents.retain_others.Goals as goal

pub returns : goal.returns
returns c =
    filter_same_pairs _ (λ e. not (e.0.store == c.args.store)) _ (λ k v b w f t. search rules) _ _ c.retain.ensures.filtered
