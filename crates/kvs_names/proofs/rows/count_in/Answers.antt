use Rattle.std.proofs.Common.{length, map, ap, ◌∙◌}
use Rattle.kvs_names.specs.Row.{row_of}
use Rattle.kvs_names.specs.Table.{with_numbers}
use Rattle.kvs_names.proofs.Kept.{refilled}
use Rattle.kvs_names.proofs.rows.count_in.Goals as goal

pub returns : goal.returns
returns c = ap (map row_of) (refilled c.args.rows.now.items c.count_each.new.rows (c.count_each.auto.rows ∙ ap length c.as_mut_slice.ensures.value)) ∙ c.count_each.ensures ∙ ap (λ rows. map (with_numbers c.args.id c.args.seq c.args.documents) (map row_of rows)) c.as_mut_slice.ensures.value
