use Rattle.std.proofs.Common.{◌≡◌, ◌<◌, ◌++◌, length, map, take, drop, sym, ap, ◌∙◌, arith, add-one, get_or}
use Rattle.std.proofs.Math.ListN.{set, get_or-map}
use Rattle.std.proofs.lemmas.List.{map-set, length-map}
use Rattle.kvs_names.specs.Row.{row_of}
use Rattle.kvs_names.specs.Table.{with_numbers}
use Rattle.kvs_names.proofs.Kept.{next_mapped}
use Rattle.kvs_names.proofs.rows.count_each.Goals as goal

pub loop-row-preserved : goal.loop-row-preserved
loop-row-preserved c =
    let f = with_numbers c.args.id c.args.seq c.args.documents in
    let xs = map row_of c.args.rows.now in
    let i = c.loop-row.row-index in
    let old = row_of c.row-item.result in
    let within : i < length xs = omega (arith, length-map c.args.rows.now row_of) in
    let here : get_or (map f (take i xs) ++ drop i xs) i old ≡ old = ap (λ zs. get_or zs i old) (sym c.loop-row.invariant) ∙ get_or-map row_of c.loop-row.rows i c.row-item.result ∙ ap row_of (sym c.row-item.is) in
    rw add-one (map-set row_of c.loop-row.rows i c.count.new.self
    ∙ ap (λ zs. set zs i (row_of c.count.new.self)) c.loop-row.invariant
    ∙ ap (set (map f (take i xs) ++ drop i xs) i) (c.count.ensures ∙ ap (λ r. f (row_of r)) (sym c.row-item.is))
    ∙ next_mapped f xs i old within here)
