use Rattle.std.proofs.Common.{◌≡◌, ◌^◌, ◌-◌, min, take, sum_by}
use Rattle.wal_index.specs.Live.{len_if_live}
use Rattle.wal_index.proofs.live.sum_of.Given as goal

abbrev pub invariant-loop-row : goal.invariant-loop-row
invariant-loop-row l = l.sum ≡ min (sum_by (λ r. len_if_live r.value.entry) (take l.row-index l.rows)) (2 ^ 64 - 1)
