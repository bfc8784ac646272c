use Rattle.std.proofs.Common.{◌≡◌, List, sym, ap, ◌∙◌, subst}
use Rattle.std.specs.FinMap as finite
use Rattle.std.specs.Global.{Box}
use Rattle.forest_model.specs.Key.{key_cmp}
use Rattle.forest_model.specs.declared.stored.KeyEntry.{KeyEntry}
use Rattle.wal_index.specs.Index.{key_at}
use Rattle.wal_index.specs.Merged.{AreRows, all_pairs}
use Rattle.wal_index.specs.Rows.{key_of, pairs}
use Rattle.wal_index.proofs.TwoLists.{older_settled, older_recent, put_settled, put_settled_pairs, put_recent, put_recent_pairs}
use Rattle.wal_index.proofs.rows.Rows.put.Goals as goal

pub returns-in-Err-clause-rows : goal.returns-in-Err-clause-rows
returns-in-Err-clause-rows c =
    let row = c.args.row in
    let put : pairs c.put.new.rows.items ≡ finite.put key_cmp (key_of row) row.value.entry (pairs c.args.self.now.recent.items) = c.put.ensures.put ∙ ap (λ (v : KeyEntry). finite.put key_cmp (key_at v.store v.key) v.entry (pairs c.args.self.now.recent.items)) c.in-Err.ensures.back in
    subst (λ (rows : List (Box KeyEntry)). AreRows rows c.put.new.rows.items) (sym c.in-Err.ensures.kept) (put_recent c.args.self.now.settled.items c.args.self.now.recent.items c.put.new.rows.items (key_of row) row.value.entry c.requires.rows put c.in-Err.ensures.absent)

pub returns-in-Err-clause-put : goal.returns-in-Err-clause-put
returns-in-Err-clause-put c =
    let row = c.args.row in
    let put : pairs c.put.new.rows.items ≡ finite.put key_cmp (key_of row) row.value.entry (pairs c.args.self.now.recent.items) = c.put.ensures.put ∙ ap (λ (v : KeyEntry). finite.put key_cmp (key_at v.store v.key) v.entry (pairs c.args.self.now.recent.items)) c.in-Err.ensures.back in
    ap (λ (rows : List (Box KeyEntry)). all_pairs rows c.put.new.rows.items) c.in-Err.ensures.kept
    ∙ put_recent_pairs c.args.self.now.settled.items c.args.self.now.recent.items c.put.new.rows.items (key_of row) row.value.entry c.requires.rows put

pub returns-in-Ok-clause-rows : goal.returns-in-Ok-clause-rows
returns-in-Ok-clause-rows c = put_settled c.args.self.now.settled.items c.replace_by.new.rows.items c.args.self.now.recent.items (key_of c.args.row) c.args.row.value.entry c.requires.rows c.in-Ok.ensures.put c.in-Ok.ensures.found

pub returns-in-Ok-clause-put : goal.returns-in-Ok-clause-put
returns-in-Ok-clause-put c = put_settled_pairs c.args.self.now.settled.items c.replace_by.new.rows.items c.args.self.now.recent.items (key_of c.args.row) c.args.row.value.entry c.requires.rows c.in-Ok.ensures.put c.in-Ok.ensures.found

pub returns-in-Ok-clause-older : goal.returns-in-Ok-clause-older
returns-in-Ok-clause-older c = older_settled c.args.self.now.settled.items c.args.self.now.recent.items (key_of c.args.row) c.in-Ok.older c.requires.rows c.in-Ok.ensures.older

pub returns-in-Err-clause-older : goal.returns-in-Err-clause-older
returns-in-Err-clause-older c =
    c.put.ensures.older
    ∙ ap (λ (v : KeyEntry). finite.find key_cmp (key_at v.store v.key) (pairs c.args.self.now.recent.items)) c.in-Err.ensures.back
    ∙ older_recent c.args.self.now.settled.items c.args.self.now.recent.items (key_of c.args.row) c.in-Err.ensures.absent
