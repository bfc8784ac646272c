use Rattle.std.proofs.Common.{◌-◌, ap, sym, ◌∙◌, arith}
use Rattle.std.specs.FinMap as finite
use Rattle.forest_model.specs.Key.{key_cmp}
use Rattle.forest_model.specs.declared.stored.KeyEntry.{KeyEntry}
use Rattle.wal_index.specs.Index.{Index, Map, key_at, with_entry}
use Rattle.wal_index.specs.Merged.{all_pairs}
use Rattle.wal_index.proofs.Maps.{put_map, row_put}
use Rattle.wal_index.proofs.TwoLists.{rows_sorted}
use Rattle.wal_index.proofs.index.WalIndex.put.Goals as goal

pub invariant_of-self : goal.invariant_of-self
invariant_of-self c =
    let room = ap (λ (x : Index). x.room) c.self.view_is in
    (c.put_both-older.ensures.sorted, omega (arith, room, c.requires, c.put_both-older.ensures.capacity, c.put_both-older.ensures.len, c.self.invariant.1), c.self.invariant.2, c.put_both-older.ensures.numbers_sorted, omega (arith, room, c.requires, c.put_both-older.ensures.numbers_capacity, c.put_both-older.ensures.numbers_len, c.self.invariant.4), c.put_both-older.ensures.agree)

pub returns-clause-put : goal.returns-clause-put
returns-clause-put c =
    let es = all_pairs c.self.inside.rows.settled.items c.self.inside.rows.recent.items in
    let with_map : Map → Index = λ m. record { entries = m; gone = c.self.inside.gone.items; room = c.self.inside.room - 1; may_go = c.self.inside.may_go } in
    ap with_map (put_map es (all_pairs c.put_both-older.new.rows.settled.items c.put_both-older.new.rows.recent.items) (key_at c.args.store c.args.room) c.args.entry (rows_sorted c.self.inside.rows.settled.items c.self.inside.rows.recent.items c.self.invariant.0) (row_put es (all_pairs c.put_both-older.new.rows.settled.items c.put_both-older.new.rows.recent.items) c.into_parts-row.result.0 c.args.store c.args.room c.args.entry c.put_both-older.ensures.put c.into_parts-row.ensures.row))
    ∙ ap (λ (x : Index). with_entry x c.args.store c.args.room c.args.entry) c.self.view_is

pub returns-clause-older : goal.returns-clause-older
returns-clause-older c =
    let settled = c.self.inside.rows.settled.items in
    let recent = c.self.inside.rows.recent.items in
    let q = key_at c.args.store c.args.room in
    c.put_both-older.ensures.older
    ∙ ap (λ (v : KeyEntry). finite.find key_cmp (key_at v.store v.key) (all_pairs settled recent)) c.into_parts-row.ensures.row
    ∙ sym (finite.get-from_sorted key_cmp (all_pairs settled recent) q (rows_sorted settled recent c.self.invariant.0))
    ∙ ap (λ (x : Index). finite.get x.entries q) c.self.view_is
