use Rattle.std.proofs.Common.{rules}
use Rattle.std.specs.Prelude.{◌==◌, not}
use Rattle.std.proofs.lemmas.Fn.{filter_same}
use Rattle.wal_index.proofs.Maps.{pairs_filter}
use Rattle.wal_index.proofs.by_key.remove_store.Goals as goal

pub returns-clause-removed : goal.returns-clause-removed
returns-clause-removed c = pairs_filter (λ k. not (k.store == c.args.store)) c.args.rows.now.items c.retain.new.self.items (filter_same _ (λ r. not (r.value.store == c.args.store)) _ (λ x b f k. search rules) _ _ c.retain.ensures.filtered)
