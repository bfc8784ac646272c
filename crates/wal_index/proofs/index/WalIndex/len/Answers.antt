use Rattle.std.proofs.Common.{length, ap, sym, ◌∙◌}
use Rattle.std.specs.FinMap as finite
use Rattle.forest_model.specs.Key.{key_cmp}
use Rattle.wal_index.specs.Index.{Index}
use Rattle.wal_index.specs.Merged.{all_pairs}
use Rattle.wal_index.proofs.TwoLists.{rows_sorted}
use Rattle.wal_index.proofs.index.WalIndex.len.Goals as goal

pub returns : goal.returns
returns c =
    let settled = c.self.inside.rows.settled.items in
    let recent = c.self.inside.rows.recent.items in
    c.len.ensures
    ∙ sym (ap length (finite.entries-from_sorted key_cmp (all_pairs settled recent) (rows_sorted settled recent c.self.invariant.0)))
    ∙ sym (finite.len-entries (finite.from_sorted (all_pairs settled recent)))
    ∙ ap (λ (x : Index). finite.len x.entries) c.self.view_is
