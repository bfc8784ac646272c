use Rattle.std.proofs.Common.{Bool, [], ◌∷◌, drop, ◌+◌, sym, ap, ◌∙◌}
use Rattle.forest_model.specs.declared.call.Item.{Item}
use Rattle.forest_oracle.specs.AtTurn.{lives_behind}
use Rattle.forest_oracle.proofs.AtTurn.{lives_more}
use Rattle.forest_oracle.proofs.oracle.turns.lives_after.Goals as goal

pub loop-item-preserved : goal.loop-item-preserved
loop-item-preserved c =
    let more = lives_more c.args.front.now c.loop-item.item-index c.item-item.result c.args.key.now c.loop-item.lives c.loop-item-test.true in
    ap (λ (lives : Bool). lives_behind (drop (c.loop-item.item-index + 1) c.args.front.now) c.args.key.now lives)
    (c.lives_with-lives.ensures ∙ ap (λ (item : Item). lives_behind (item ∷ []) c.args.key.now c.loop-item.lives) c.item-item.is)
    ∙ sym more ∙ c.loop-item.invariant
