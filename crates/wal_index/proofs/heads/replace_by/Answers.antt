use Rattle.std.proofs.Common.{Some, sym, ap, ◌∙◌}
use Rattle.forest_model.specs.Key.{key_cmp}
use Rattle.forest_model.specs.declared.stored.KeyEntry.{KeyEntry}
use Rattle.wal_index.specs.Rows.{key_of, pair_of}
use Rattle.wal_index.proofs.Orders.{exact_keys}
use Rattle.wal_index.proofs.Placed.{row_at, row_gap}
use Rattle.wal_index.proofs.Sorted.{found_at, found_there, found_nowhere, put_over}
use Rattle.wal_index.proofs.heads.replace_by.Goals as goal

pub returns-in-Ok-clause-put : goal.returns-in-Ok-clause-put
returns-in-Ok-clause-put c =
    let rows = c.args.rows.now.items in
    let at = row_at c.args.row rows c.as_slice.result.now c.in-Ok.at c.deref.result.now c.deref-2.result.now c.as_slice-2.result.now c.as_slice.ensures.value c.deref.ensures c.deref-2.ensures c.as_slice-2.ensures c.in-Ok.ensures.at in
    put_over key_cmp pair_of exact_keys c.args.row rows c.in-Ok.at at.within at.here at.around.before

pub returns-in-Ok-clause-found : goal.returns-in-Ok-clause-found
returns-in-Ok-clause-found c =
    let rows = c.args.rows.now.items in
    let at = row_at c.args.row rows c.as_slice.result.now c.in-Ok.at c.deref.result.now c.deref-2.result.now c.as_slice-2.result.now c.as_slice.ensures.value c.deref.ensures c.deref-2.ensures c.as_slice-2.ensures c.in-Ok.ensures.at in
    found_there key_cmp pair_of (key_of c.args.row) rows c.in-Ok.at at.within at.here at.around.before

pub returns-in-Ok-clause-older : goal.returns-in-Ok-clause-older
returns-in-Ok-clause-older c =
    let rows = c.args.rows.now.items in
    let at = row_at c.args.row rows c.as_slice.result.now c.in-Ok.at c.deref.result.now c.deref-2.result.now c.as_slice-2.result.now c.as_slice.ensures.value c.deref.ensures c.deref-2.ensures c.as_slice-2.ensures c.in-Ok.ensures.at in
    found_at key_cmp pair_of (key_of c.args.row) rows c.in-Ok.at c.index.result.now at.within at.here at.around.before c.index.ensures ∙ sym (ap (λ (v : KeyEntry). Some v.entry) c.deref-in-Ok.ensures)

pub returns-in-Err-clause-absent : goal.returns-in-Err-clause-absent
returns-in-Err-clause-absent c =
    let rows = c.args.rows.now.items in
    let gap = row_gap c.args.row rows c.as_slice.result.now c.in-Err.field-0 c.deref.result.now c.deref-2.result.now c.as_slice-2.result.now c.as_slice.ensures.value c.deref.ensures c.deref-2.ensures c.as_slice-2.ensures c.in-Err.ensures.gap in
    found_nowhere key_cmp pair_of (key_of c.args.row) rows c.in-Err.field-0 gap.around.before gap.around.behind
