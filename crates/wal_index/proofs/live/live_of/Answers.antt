use Rattle.std.proofs.Common.{◌^◌, ◌-◌, min, sym, ap, ◌∙◌}
use Rattle.wal_index.proofs.StoreRows.{first_to_end, own_sum}
use Rattle.wal_index.proofs.live.live_of.Goals as goal

pub slice_bounds-sum_of-count : goal.slice_bounds-sum_of-count
slice_bounds-sum_of-count c = first_to_end c.args.rows.now c.args.store c.border-first.result c.border-end.result c.border-first.ensures c.border-end.ensures

pub slice_bounds-sum_of-start : goal.slice_bounds-sum_of-start
slice_bounds-sum_of-start c = first_to_end c.args.rows.now c.args.store c.border-first.result c.border-end.result c.border-first.ensures c.border-end.ensures

pub returns : goal.returns
returns c = c.sum_of.ensures ∙ ap (λ n. min n (2 ^ 64 - 1)) (sym (own_sum c.args.rows.now c.args.store c.border-first.result c.border-end.result c.border-first.ensures c.border-end.ensures))
