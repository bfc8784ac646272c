use Rattle.std.proofs.Common.{◌≡◌, T, List, length, rules, sym, ◌∙◌, subst}
use Rattle.std.specs.FinMap as finite
use Rattle.forest_model.specs.Key.{key_cmp}
use Rattle.forest_model.specs.declared.documents.DocKey.{DocKey}
use Rattle.forest_model.specs.declared.stored.Entry.{Entry}
use Rattle.wal_index.specs.Merged.{all_pairs}
use Rattle.wal_index.specs.Rows.{pairs}
use Rattle.wal_index.proofs.Moved.{no_rows, turned_pairs}
use Rattle.wal_index.proofs.TwoLists.{no_recent, rows_settled, rows_sorted}
use Rattle.wal_index.proofs.merge.settle.Goals as goal

pub returns-clause-rows : goal.returns-clause-rows
returns-clause-rows c =
    let none : length c.move_all.new.recent.items ≡ 0 = search rules in
    let same : pairs c.reverse.new.self.items ≡ all_pairs c.args.settled.now.items c.args.recent.now.items = turned_pairs c.move_all.new.rows.items c.reverse.new.self.items (search rules) ∙ sym c.move_all.ensures.moved in
    rows_settled c.reverse.new.self.items c.move_all.new.recent.items (no_rows c.move_all.new.recent.items none)
    (subst (λ (es : List (DocKey × Entry)). T (finite.is_sorted key_cmp es)) (sym same) (rows_sorted c.args.settled.now.items c.args.recent.now.items c.requires))

pub returns-clause-pairs : goal.returns-clause-pairs
returns-clause-pairs c =
    let none : length c.move_all.new.recent.items ≡ 0 = search rules in
    no_recent c.reverse.new.self.items c.move_all.new.recent.items (no_rows c.move_all.new.recent.items none)
    ∙ turned_pairs c.move_all.new.rows.items c.reverse.new.self.items (search rules)
    ∙ sym c.move_all.ensures.moved
