use Rattle.std.proofs.Common.{◌-◌}
use Rattle.forest_model.specs.Key.{key_cmp}
use Rattle.wal_index.specs.Index.{key_at}
use Rattle.wal_index.specs.Rows.{pair_of}
use Rattle.wal_index.proofs.Orders.{keys_total}
use Rattle.wal_index.proofs.Parts.{sorted_part, whole_at, whole_gap}
use Rattle.wal_index.proofs.heads.place_in.Goals as goal

pub place-requires : goal.place-requires
place-requires c = sorted_part key_cmp pair_of c.args.rows.now c.args.low (c.args.high - c.args.low) c.requires.sorted

pub returns-in-Ok-clause-at : goal.returns-in-Ok-clause-at
returns-in-Ok-clause-at c = whole_at keys_total pair_of (key_at c.args.store c.args.key.now) c.args.rows.now c.args.low c.args.high c.requires.part c.requires.within c.requires.behind c.requires.before c.in-Ok.at c.in-Ok.ensures.at

pub returns-in-Err-clause-gap : goal.returns-in-Err-clause-gap
returns-in-Err-clause-gap c = whole_gap keys_total pair_of (key_at c.args.store c.args.key.now) c.args.rows.now c.args.low c.args.high c.requires.part c.requires.within c.requires.behind c.requires.before c.in-Err.at c.in-Err.ensures.gap
