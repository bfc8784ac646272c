use Rattle.std.proofs.Common.{◌≡◌, ◌+◌, length, vec_len, rules}
use Rattle.wal_index.proofs.Moved.{kept_more, moved_more}
use Rattle.wal_index.proofs.merge.move_behind.Goals as goal

pub loop-preserved : goal.loop-preserved
loop-preserved c =
    let start = c.args.from.now.items in
    let left = c.take_last.new.self in
    let one : vec_len c.loop.from ≡ vec_len left + 1 = search rules in
    let len : length left.items ≡ vec_len left = search rules in (
      kept_more (vec_len left) (vec_len c.loop.from) start c.loop.from.items left.items c.take_last.result c.loop.invariant.0 c.take_last.ensures.items one len,
      moved_more (vec_len left) (vec_len c.loop.from) start c.loop.from.items left.items c.args.rows.now.items c.loop.rows.items c.push_reserved.new.self.items c.take_last.result c.loop.invariant.0 c.take_last.ensures.items one len c.loop.invariant.1 c.push_reserved.ensures.items,
      search rules,
      search rules,
      search rules,
    )
