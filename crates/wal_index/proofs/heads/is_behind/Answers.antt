use Rattle.std.proofs.Common.{◌-◌, arith, sym, ap, ◌∙◌}
use Rattle.forest_model.specs.Key.{key_cmp}
use Rattle.forest_model.specs.declared.stored.KeyEntry.{KeyEntry}
use Rattle.wal_index.specs.Index.{key_at}
use Rattle.wal_index.specs.Rows.{pair_of}
use Rattle.wal_index.proofs.Orders.{keys_total}
use Rattle.wal_index.proofs.Parts.{all_behind, lower}
use Rattle.wal_index.proofs.heads.is_behind.Goals as goal

pub returns-else-low-eq0 : goal.returns-else-low-eq0
returns-else-low-eq0 c is =
    let q = key_at c.args.store c.args.key.now in
    all_behind keys_total pair_of q c.args.rows.now c.args.low (c.args.low - 1) c.index-rows-low.result c.requires.sorted (omega arith) (omega (arith, c.requires.within)) c.index-rows-low.is
    (ap (λ (v : KeyEntry). key_cmp (key_at v.store v.key) q) (sym c.deref.ensures) ∙ sym c.compare.ensures ∙ lower c.compare.result (sym c.is_lt.ensures ∙ is))
