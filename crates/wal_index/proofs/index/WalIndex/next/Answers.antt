use Rattle.std.proofs.Common.{List, ap, sym, ◌∙◌}
use Rattle.std.specs.Option.{option_map}
use Rattle.std.specs.FinMap as finite
use Rattle.forest_model.specs.Key.{key_cmp}
use Rattle.forest_model.specs.declared.documents.DocKey.{DocKey}
use Rattle.forest_model.specs.declared.stored.Entry.{Entry}
use Rattle.wal_index.specs.Index.{Index, key_at, key_and_entry, nearest, nearest_of}
use Rattle.wal_index.specs.Merged.{all_pairs}
use Rattle.wal_index.proofs.TwoLists.{rows_sorted}
use Rattle.wal_index.proofs.index.WalIndex.next.Goals as goal

pub returns : goal.returns
returns c =
    let q = key_at c.args.store c.args.key.now in
    let settled = c.self.inside.rows.settled.items in
    let recent = c.self.inside.rows.recent.items in
    c.next.ensures
    ∙ ap (λ (es : List (DocKey × Entry)). option_map key_and_entry (nearest_of c.args.with c.args.up es q)) (sym (finite.entries-from_sorted key_cmp (all_pairs settled recent) (rows_sorted settled recent c.self.invariant.0)))
    ∙ ap (λ (x : Index). option_map key_and_entry (nearest c.args.with c.args.up x.entries q)) c.self.view_is
