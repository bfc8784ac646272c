use Rattle.std.proofs.Common.{List, sym, ap, ◌∙◌}
use Rattle.std.specs.FinMap as finite
use Rattle.std.specs.Global.{Box}
use Rattle.forest_model.specs.Key.{key_cmp}
use Rattle.forest_model.specs.declared.stored.KeyEntry.{KeyEntry}
use Rattle.wal_index.specs.Index.{key_at}
use Rattle.wal_index.specs.Rows.{pairs}
use Rattle.wal_index.proofs.TwoLists.{found_recent, found_settled}
use Rattle.wal_index.proofs.rows.Rows.get.Goals as goal

pub returns-in-Some : goal.returns-in-Some
returns-in-Some c =
    let q = key_at c.args.store c.args.key.now in
    found_recent c.args.self.now.settled.items c.args.self.now.recent.items q c.in-Some.entry
    (ap (λ (rows : List (Box KeyEntry)). finite.find key_cmp q (pairs rows)) (sym c.as_slice.ensures.value) ∙ sym c.get.ensures ∙ c.in-Some.is)

pub returns-in-None : goal.returns-in-None
returns-in-None c =
    let q = key_at c.args.store c.args.key.now in
    c.get_by.ensures
    ∙ ap (λ (rows : List (Box KeyEntry)). finite.find key_cmp q (pairs rows)) c.as_slice-in-None.ensures.value
    ∙ found_settled c.args.self.now.settled.items c.args.self.now.recent.items q
    (ap (λ (rows : List (Box KeyEntry)). finite.find key_cmp q (pairs rows)) (sym c.as_slice.ensures.value) ∙ sym c.get.ensures ∙ c.in-None.is)
