use Rattle.std.proofs.Common.{◌≡◌, List, length, rules, sym, ap, ◌∙◌, subst}
use Rattle.std.specs.Prelude.{reverse}
use Rattle.std.specs.Global.{Box}
use Rattle.forest_model.specs.declared.stored.KeyEntry.{KeyEntry}
use Rattle.wal_index.specs.Merged.{IsBelowLast, all_pairs}
use Rattle.wal_index.specs.Rows.{pairs}
use Rattle.wal_index.proofs.BelowLast.{parted_rows}
use Rattle.wal_index.proofs.Moved.{moving_end, no_rows}
use Rattle.wal_index.proofs.merge.move_all.Goals as goal

pub loop-preserved : goal.loop-preserved
loop-preserved c =
    let settled = c.loop.settled.items in
    let recent = c.loop.recent.items in
    let at = c.place_of_last-at.result in
    let place : IsBelowLast settled recent at =
    subst (λ (rs : List (Box KeyEntry)). IsBelowLast rs recent at) c.as_slice.ensures.value
    (subst (λ (rs : List (Box KeyEntry)). IsBelowLast c.as_slice.result.now rs at) c.as_slice-in-loop.ensures.value c.place_of_last-at.ensures)
    in (
      parted_rows (all_pairs c.args.settled.now.items c.args.recent.now.items) settled recent c.loop.rows.items c.move_behind.new.from.items c.take_last.new.self.items c.move_behind.new.rows.items c.push_reserved.new.self.items c.take_last.result at
          c.loop.invariant.0 place c.move_behind.ensures.left c.move_behind.ensures.moved c.take_last.ensures.items c.push_reserved.ensures.items,
      search rules,
      search rules,
      search rules,
    )

pub returns-clause-moved : goal.returns-clause-moved
returns-clause-moved c =
    let recent = c.loop.recent.items in
    let none : length recent ≡ 0 = search rules in
    moving_end (all_pairs c.args.settled.now.items c.args.recent.now.items) c.loop.settled.items recent c.loop.rows.items c.loop.invariant.0 (no_rows recent none)
    ∙ ap (λ rs. reverse (pairs rs)) (sym c.move_behind-2.ensures.moved)
