use Rattle.std.proofs.Common.{arith, sym, ap, ◌∙◌}
use Rattle.forest_model.specs.Key.{key_cmp}
use Rattle.forest_model.specs.declared.stored.KeyEntry.{KeyEntry}
use Rattle.wal_index.specs.Index.{key_at}
use Rattle.wal_index.specs.Rows.{pair_of}
use Rattle.wal_index.proofs.Orders.{keys_total}
use Rattle.wal_index.proofs.Parts.{all_before, higher}
use Rattle.wal_index.proofs.heads.is_before.Goals as goal

pub returns-else-high-rows : goal.returns-else-high-rows
returns-else-high-rows c is =
    let q = key_at c.args.store c.args.key.now in
    all_before keys_total pair_of q c.args.rows.now c.args.high c.index-rows-high.result c.requires.sorted (omega (arith, c.requires.within)) c.index-rows-high.is
    (ap (λ (v : KeyEntry). key_cmp (key_at v.store v.key) q) (sym c.deref.ensures) ∙ sym c.compare.ensures ∙ higher c.compare.result (sym c.is_gt.ensures ∙ is))
