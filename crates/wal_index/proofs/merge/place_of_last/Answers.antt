use Rattle.std.proofs.Common.{◌-◌, length, refl, arith}
use Rattle.wal_index.proofs.BelowLast.{below_last_at, below_last_gap}
use Rattle.wal_index.proofs.Placed.{row_at, row_gap}
use Rattle.wal_index.proofs.merge.place_of_last.Goals as goal

pub returns-in-Ok : goal.returns-in-Ok
returns-in-Ok c =
    let row = c.index-recent-recent.result in
    let settled = c.args.settled.now in
    below_last_at settled c.args.recent.now row (length c.args.recent.now - 1) c.in-Ok.at c.requires.rows (omega (arith, c.requires.some)) c.index-recent-recent.is
    (row_at row settled settled c.in-Ok.at c.deref.result.now c.deref-2.result.now c.as_slice.result.now refl c.deref.ensures c.deref-2.ensures c.as_slice.ensures c.in-Ok.ensures.at)

pub returns-in-Err : goal.returns-in-Err
returns-in-Err c =
    let row = c.index-recent-recent.result in
    let settled = c.args.settled.now in
    below_last_gap settled c.args.recent.now row (length c.args.recent.now - 1) c.in-Err.at (omega (arith, c.requires.some)) c.index-recent-recent.is
    (row_gap row settled settled c.in-Err.at c.deref.result.now c.deref-2.result.now c.as_slice.result.now refl c.deref.ensures c.deref-2.ensures c.as_slice.ensures c.in-Err.ensures.gap)
