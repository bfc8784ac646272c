use Rattle.std.proofs.Common.{◌<◌, ◌+◌, length, map, ap, ◌∙◌, arith}
use Rattle.kvs_names.specs.Row.{row_of}
use Rattle.kvs_names.proofs.Kept.{taken_more, some_within}
use Rattle.kvs_names.proofs.rows.from_stores.Goals as goal
use Rattle.kvs_names.proofs.rows.from_stores.Goals.{in-Some, in_default}

pub loop-n-preserved : goal.loop-n-preserved
loop-n-preserved c =
    let within : c.loop-n.n < length c.args.stores.now = omega arith in
    elim c.match-at.branch [
      | in-Some w ↦ record {
        so_far = ap (λ r. map row_of r.items) w.rows-is ∙ ap (map row_of) w.push.ensures.items ∙ taken_more c.loop-n.rows.items w.new.result c.args.stores.now _ c.loop-n.n within c.loop-n.invariant.so_far w.in-Some.ensures.row w.new.ensures;
        len = ap (λ r. length r.items) w.rows-is ∙ w.push.ensures.len ∙ ap (λ n. n + 1) c.loop-n.invariant.len;
      }
      | in_default w ↦ absurd (some_within c.args.stores.now c.loop-n.n within w.in_default.ensures.row)
    ]
