use Rattle.std.proofs.Common.{Some, sym, ap, ◌∙◌}
use Rattle.std.specs.Prelude.{insert, if◌then◌else◌}
use Rattle.forest_model.specs.Key.{key_cmp}
use Rattle.forest_model.specs.declared.stored.KeyEntry.{KeyEntry}
use Rattle.wal_index.specs.Rows.{key_of, pair_of, pairs}
use Rattle.wal_index.proofs.Orders.{exact_keys}
use Rattle.wal_index.proofs.Placed.{row_at, row_gap}
use Rattle.wal_index.proofs.Sorted.{found_at, found_nowhere, put_over, put_between}
use Rattle.wal_index.proofs.by_key.put.Goals as goal

pub returns-in-Ok-clause-put : goal.returns-in-Ok-clause-put
returns-in-Ok-clause-put c =
    let rows = c.args.rows.now.items in
    let at = row_at c.args.row rows c.as_slice.result.now c.in-Ok.at c.deref.result.now c.deref-2.result.now c.as_slice-2.result.now c.as_slice.ensures.value c.deref.ensures c.deref-2.ensures c.as_slice-2.ensures c.in-Ok.ensures.at in
    put_over key_cmp pair_of exact_keys c.args.row rows c.in-Ok.at at.within at.here at.around.before

pub returns-in-Ok-clause-older : goal.returns-in-Ok-clause-older
returns-in-Ok-clause-older c =
    let rows = c.args.rows.now.items in
    let at = row_at c.args.row rows c.as_slice.result.now c.in-Ok.at c.deref.result.now c.deref-2.result.now c.as_slice-2.result.now c.as_slice.ensures.value c.deref.ensures c.deref-2.ensures c.as_slice-2.ensures c.in-Ok.ensures.at in
    ap (λ (v : KeyEntry). Some v.entry) c.deref-in-Ok.ensures ∙ sym (found_at key_cmp pair_of (key_of c.args.row) rows c.in-Ok.at c.index.result.now at.within at.here at.around.before c.index.ensures)

pub returns-in-Err-clause-put : goal.returns-in-Err-clause-put
returns-in-Err-clause-put c =
    let rows = c.args.rows.now.items in
    let gap = row_gap c.args.row rows c.as_slice.result.now c.in-Err.at c.deref.result.now c.deref-2.result.now c.as_slice-2.result.now c.as_slice.ensures.value c.deref.ensures c.deref-2.ensures c.as_slice-2.ensures c.in-Err.ensures.gap in
    ap pairs (c.insert-room.ensures.items ∙ ap (λ b. if b then insert rows c.in-Err.at c.args.row else rows) (c.insert-room.ensures.succeeds c.requires.room))
    ∙ put_between key_cmp pair_of c.args.row rows c.in-Err.at gap.within gap.around.before gap.around.behind

pub returns-in-Err-clause-older : goal.returns-in-Err-clause-older
returns-in-Err-clause-older c =
    let rows = c.args.rows.now.items in
    let gap = row_gap c.args.row rows c.as_slice.result.now c.in-Err.at c.deref.result.now c.deref-2.result.now c.as_slice-2.result.now c.as_slice.ensures.value c.deref.ensures c.deref-2.ensures c.as_slice-2.ensures c.in-Err.ensures.gap in
    sym (found_nowhere key_cmp pair_of (key_of c.args.row) rows c.in-Err.at gap.around.before gap.around.behind)
