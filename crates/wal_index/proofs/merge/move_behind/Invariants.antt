use Rattle.std.proofs.Common.{◌≡◌, ◌+◌, ◌++◌, take, drop, vec_len, vec_capacity}
use Rattle.std.specs.Prelude.{reverse}
use Rattle.wal_index.proofs.merge.move_behind.Given as goal

abbrev pub invariant-loop : goal.invariant-loop
invariant-loop l =
    (l.from.items ≡ take (vec_len l.from) l.fn.from.items)
    × (l.rows.items ≡ l.fn.rows.items ++ reverse (drop (vec_len l.from) l.fn.from.items))
    × (vec_len l.from + l.counter ≡ vec_len l.fn.from)
    × (vec_len l.rows ≡ vec_len l.fn.rows + l.counter)
    × (vec_capacity l.rows ≡ vec_capacity l.fn.rows)
