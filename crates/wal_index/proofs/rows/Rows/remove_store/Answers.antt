use Rattle.std.specs.Prelude.{◌==◌, not}
use Rattle.wal_index.proofs.TwoLists.{removed_rows, removed_pairs}
use Rattle.wal_index.proofs.rows.Rows.remove_store.Goals as goal

pub returns-clause-rows : goal.returns-clause-rows
returns-clause-rows c = removed_rows c.args.self.now.settled.items c.args.self.now.recent.items c.remove_store.new.rows.items c.remove_store-2.new.rows.items (λ k. not (k.store == c.args.store)) c.requires c.remove_store.ensures.removed c.remove_store-2.ensures.removed

pub returns-clause-removed : goal.returns-clause-removed
returns-clause-removed c = removed_pairs c.args.self.now.settled.items c.args.self.now.recent.items c.remove_store.new.rows.items c.remove_store-2.new.rows.items (λ k. not (k.store == c.args.store)) c.requires c.remove_store.ensures.removed c.remove_store-2.ensures.removed
