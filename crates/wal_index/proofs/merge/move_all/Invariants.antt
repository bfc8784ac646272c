use Rattle.std.proofs.Common.{◌≡◌, ◌≤◌, ◌+◌, vec_len, vec_capacity}
use Rattle.wal_index.specs.Merged.{all_pairs}
use Rattle.wal_index.proofs.Moved.{Moving}
use Rattle.wal_index.proofs.merge.move_all.Given as goal

abbrev pub invariant-loop : goal.invariant-loop
invariant-loop l =
    Moving (all_pairs l.fn.settled.items l.fn.recent.items) l.settled.items l.recent.items l.rows.items
    × (vec_len l.recent + l.counter ≡ l.count)
    × (vec_len l.settled + vec_len l.recent + vec_len l.rows ≤ vec_capacity l.rows)
    × (vec_capacity l.recent ≡ vec_capacity l.fn.recent)
