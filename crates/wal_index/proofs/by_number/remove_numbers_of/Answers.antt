use Rattle.std.proofs.Common.{rules}
use Rattle.std.specs.Prelude.{◌==◌, not}
use Rattle.std.proofs.lemmas.Fn.{filter_same}
use Rattle.wal_index.proofs.Marks.{marks_filter}
use Rattle.wal_index.proofs.by_number.remove_numbers_of.Goals as goal

pub returns-clause-removed : goal.returns-clause-removed
returns-clause-removed c = marks_filter (λ n. not (n.store == c.args.store)) c.args.numbers.now.items c.retain.new.self.items (filter_same _ (λ r. not (r.value.store == c.args.store)) _ (λ x b f k. search rules) _ _ c.retain.ensures.filtered)
