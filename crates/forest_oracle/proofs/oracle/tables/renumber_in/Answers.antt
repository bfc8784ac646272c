use Rattle.std.proofs.Common.{◌≡◌, ◌<◌, ◌++◌, length, map, take, drop, sym, ap, ◌∙◌, arith, add-one, get_or}
use Rattle.std.proofs.Math.ListN.{set}
use Rattle.forest_model.specs.Stores.{at_seq}
use Rattle.forest_oracle.proofs.Mapped.{next_mapped}
use Rattle.forest_oracle.proofs.oracle.tables.renumber_in.Goals as goal

pub loop-store-preserved : goal.loop-store-preserved
loop-store-preserved c =
    let f = at_seq c.args.id c.args.seq in
    let xs = c.args.table.now.items in
    let i = c.loop-store.store-index in
    let old = c.store-item.result in
    let within : i < length xs = omega (arith, ap length c.deref_mut-store-items.ensures.value) in
    let here : get_or (map f (take i xs) ++ drop i xs) i old ≡ old = ap (λ zs. get_or zs i old) (sym c.loop-store.invariant) ∙ sym c.store-item.is in
    rw add-one (ap (λ zs. set zs i c.renumber.new.store) c.loop-store.invariant
    ∙ ap (set (map f (take i xs) ++ drop i xs) i) (c.renumber.ensures ∙ ap f (sym c.store-item.is))
    ∙ next_mapped f xs i old within here)
