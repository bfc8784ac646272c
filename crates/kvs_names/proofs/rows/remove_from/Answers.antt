use Rattle.std.proofs.Common.{rules, not}
use Rattle.std.specs.Prelude.{◌==◌}
use Rattle.kvs_names.proofs.Kept.{kept_rows}
use Rattle.kvs_names.proofs.rows.remove_from.Goals as goal

pub returns : goal.returns
returns c = kept_rows _ (λ s. not (s.id == c.args.id)) _ (λ r b g q k. search rules) _ _ c.retain.ensures.filtered
