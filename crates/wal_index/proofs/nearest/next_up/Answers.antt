use Rattle.std.proofs.Common.{ap, ◌∙◌}
use Rattle.std.specs.Option.{option_map}
use Rattle.wal_index.specs.Index.{key_at, key_and_entry}
use Rattle.wal_index.proofs.NextEntry.{up_at}
use Rattle.wal_index.proofs.nearest.next_up.Goals as goal

pub returns : goal.returns
returns c = c.row_of_store.ensures ∙ ap (option_map key_and_entry) (up_at c.args.with (key_at c.args.store c.args.key.now) c.args.rows.now c.requires c.border-at.result c.border-at.ensures)
