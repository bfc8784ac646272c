use Rattle.std.proofs.Common.{Some, sym, ap, ◌∙◌}
use Rattle.forest_model.specs.Key.{key_cmp}
use Rattle.wal_index.specs.Index.{key_at}
use Rattle.wal_index.specs.Rows.{pair_of}
use Rattle.wal_index.proofs.Sorted.{found_at, found_nowhere}
use Rattle.wal_index.proofs.heads.get_by.Goals as goal

pub returns-in-Err : goal.returns-in-Err
returns-in-Err c = sym (found_nowhere key_cmp pair_of (key_at c.args.store c.args.key.now) c.args.rows.now c.in-Err.field-0 c.in-Err.ensures.gap.around.before c.in-Err.ensures.gap.around.behind)

pub returns-in-Ok : goal.returns-in-Ok
returns-in-Ok c =
    let at = c.in-Ok.ensures.at in
    ap (λ e. Some e.entry) c.deref.ensures ∙ sym (found_at key_cmp pair_of (key_at c.args.store c.args.key.now) c.args.rows.now c.in-Ok.at c.index-rows-at.result at.within at.here at.around.before c.index-rows-at.is)
