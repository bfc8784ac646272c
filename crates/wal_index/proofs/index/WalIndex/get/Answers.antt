use Rattle.std.proofs.Common.{ap, sym, ◌∙◌}
use Rattle.std.specs.FinMap as finite
use Rattle.forest_model.specs.Key.{key_cmp}
use Rattle.wal_index.specs.Index.{Index, key_at}
use Rattle.wal_index.specs.Merged.{all_pairs}
use Rattle.wal_index.proofs.TwoLists.{rows_sorted}
use Rattle.wal_index.proofs.index.WalIndex.get.Goals as goal

pub returns : goal.returns
returns c =
    let q = key_at c.args.store c.args.key.now in
    let settled = c.self.inside.rows.settled.items in
    let recent = c.self.inside.rows.recent.items in
    c.get.ensures
    ∙ sym (finite.get-from_sorted key_cmp (all_pairs settled recent) q (rows_sorted settled recent c.self.invariant.0))
    ∙ ap (λ (x : Index). finite.get x.entries q) c.self.view_is
