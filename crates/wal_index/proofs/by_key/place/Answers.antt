use Rattle.std.proofs.Common.{rules}
use Rattle.std.proofs.lemmas.Fn.{always_returns_same}
use Rattle.forest_model.specs.Key.{key_cmp}
use Rattle.wal_index.specs.Index.{key_at}
use Rattle.wal_index.specs.Rows.{key_of, pair_of}
use Rattle.wal_index.proofs.Placed.{placed_at, placed_gap}
use Rattle.wal_index.proofs.Orders.{keys_total}
use Rattle.wal_index.proofs.by_key.place.Goals as goal

pub returns : goal.returns
returns c =
    let q = key_at c.args.store c.args.key.now in
    let found = c.binary_search_by.ensures.position (λ y. key_cmp (key_of y) q) (always_returns_same _ _ _ (λ a r f' k. search rules)) in
    record {
      at = placed_at keys_total pair_of q c.args.rows.now c.binary_search_by.result c.requires c.binary_search_by.ensures.bound found;
      gap = placed_gap keys_total pair_of q c.args.rows.now c.binary_search_by.result c.requires c.binary_search_by.ensures.bound found;
    }
