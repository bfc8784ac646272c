use Rattle.std.proofs.Common.{◌^◌, ◌-◌, List, min, sum_by, ap, ◌∙◌}
use Rattle.std.specs.Global.{Box}
use Rattle.forest_model.specs.declared.stored.KeyEntry.{KeyEntry}
use Rattle.wal_index.specs.Live.{own_len}
use Rattle.wal_index.specs.Rows.{held}
use Rattle.wal_index.proofs.TwoLists.{rows_sum}
use Rattle.wal_index.proofs.rows.Rows.live_of.Goals as goal

pub returns : goal.returns
returns c =
    c.saturating_add.ensures
    ∙ rows_sum (own_len c.args.store) c.args.self.now.settled.items c.args.self.now.recent.items c.live_of-settled.result c.live_of.result (2 ^ 64 - 1) c.requires
    (c.live_of-settled.ensures ∙ ap (λ (rows : List (Box KeyEntry)). min (sum_by (own_len c.args.store) (held rows)) (2 ^ 64 - 1)) c.as_slice.ensures.value)
    (c.live_of.ensures ∙ ap (λ (rows : List (Box KeyEntry)). min (sum_by (own_len c.args.store) (held rows)) (2 ^ 64 - 1)) c.as_slice-2.ensures.value)
