use Rattle.std.proofs.Common.{◌^◌, ◌-◌, List, min, map, sum_by, ap, sym, ◌∙◌}
use Rattle.std.specs.FinMap as finite
use Rattle.forest_model.specs.Key.{key_cmp}
use Rattle.forest_model.specs.declared.documents.DocKey.{DocKey}
use Rattle.forest_model.specs.declared.stored.Entry.{Entry}
use Rattle.wal_index.specs.Index.{Index, key_entry}
use Rattle.wal_index.specs.Live.{own_len, own_live}
use Rattle.wal_index.specs.Merged.{all_pairs}
use Rattle.wal_index.proofs.TwoLists.{key_sum, rows_sorted}
use Rattle.wal_index.proofs.index.WalIndex.live_of.Goals as goal

pub returns : goal.returns
returns c =
    let settled = c.self.inside.rows.settled.items in
    let recent = c.self.inside.rows.recent.items in
    c.live_of.ensures
    ∙ ap (λ n. min n (2 ^ 64 - 1)) (
    sym (key_sum (own_len c.args.store) (all_pairs settled recent))
    ∙ ap (λ (es : List (DocKey × Entry)). sum_by (own_len c.args.store) (map key_entry es)) (sym (finite.entries-from_sorted key_cmp (all_pairs settled recent) (rows_sorted settled recent c.self.invariant.0)))
    ∙ ap (λ (x : Index). own_live c.args.store x.entries) c.self.view_is
    )
