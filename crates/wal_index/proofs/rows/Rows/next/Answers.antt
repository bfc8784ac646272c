use Rattle.std.proofs.Common.{ℕ, List, ap, ◌∙◌}
use Rattle.std.specs.Prelude.{Option}
use Rattle.std.specs.Global.{Box}
use Rattle.std.specs.Cmp.Lexicographic.{slice_cmp}
use Rattle.std.specs.Option.{option_map}
use Rattle.std.specs.Ordering.{nat_cmp}
use Rattle.forest_model.specs.declared.stored.Entry.{Entry}
use Rattle.forest_model.specs.declared.stored.KeyEntry.{KeyEntry}
use Rattle.wal_index.specs.Index.{key_at, key_and_entry, nearest_of}
use Rattle.wal_index.specs.Merged.{nearer}
use Rattle.wal_index.specs.Rows.{pairs}
use Rattle.wal_index.proofs.NearerRow.{rows_nearest}
use Rattle.wal_index.proofs.rows.Rows.next.Goals as goal

pub returns : goal.returns
returns c =
    let q = key_at c.args.store c.args.key.now in
    let told : List (Box KeyEntry) → Option (List ℕ × Entry) = λ rows. option_map key_and_entry (nearest_of c.args.with c.args.up (pairs rows) q) in
    c.nearer.ensures
    ∙ ap (λ (a : Option (List ℕ × Entry)). nearer (slice_cmp nat_cmp) c.args.up a (option_map (λ r. (r.0.now, r.1)) c.next_in-recent.result)) (c.next_in-settled.ensures ∙ ap told c.as_slice.ensures.value)
    ∙ ap (nearer (slice_cmp nat_cmp) c.args.up (told c.args.self.now.settled.items)) (c.next_in-recent.ensures ∙ ap told c.as_slice-2.ensures.value)
    ∙ rows_nearest c.args.with c.args.up q c.args.self.now.settled.items c.args.self.now.recent.items c.requires
