use Rattle.std.proofs.Common.{map, ap, sym, ◌∙◌}
use Rattle.std.specs.FinMap as finite
use Rattle.forest_model.specs.Key.{key_cmp}
use Rattle.wal_index.specs.Index.{Index, key_entry, in_order}
use Rattle.wal_index.specs.Merged.{all_pairs}
use Rattle.wal_index.proofs.TwoLists.{rows_sorted}
use Rattle.wal_index.proofs.index.WalIndex.sorted.Goals as goal

pub returns-clause-keys : goal.returns-clause-keys
returns-clause-keys c =
    let settled = c.self.inside.rows.settled.items in
    let recent = c.self.inside.rows.recent.items in
    c.from_vec.ensures
    ∙ c.in_ok-keys.ensures.list
    ∙ ap (λ rows. map key_entry (all_pairs rows c.as_slice-2.result.now)) c.as_slice.ensures.value
    ∙ ap (λ rows. map key_entry (all_pairs settled rows)) c.as_slice-2.ensures.value
    ∙ ap (map key_entry) (sym (finite.entries-from_sorted key_cmp (all_pairs settled recent) (rows_sorted settled recent c.self.invariant.0)))
    ∙ ap (λ (x : Index). in_order x.entries) c.self.view_is
