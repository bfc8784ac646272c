use Rattle.std.proofs.Common.{◌≡◌, Bool, false, [], ◌∷◌, take, drop, get_or, ◌+◌, sym, ap, ◌∙◌}
use Rattle.std.specs.Prelude.{◌||◌}
use Rattle.forest_model.specs.declared.call.Item.{Item}
use Rattle.forest_oracle.specs.AtTurn.{misses}
use Rattle.forest_oracle.proofs.AtTurn.{misses_more}
use Rattle.forest_oracle.proofs.oracle.turns.misses_one.Goals as goal

pub loop-n-preserved : goal.loop-n-preserved
loop-n-preserved c =
    let documents = c.args.documents.now in
    let items = c.args.items.now in
    let n = c.loop-n.n in
    let here : misses documents c.args.store (take n items) (get_or items n c.index-items-n.result ∷ []) ≡ false =
    ap (λ (item : Item). misses documents c.args.store (take n items) (item ∷ [])) (sym c.index-items-n.is) ∙ sym c.is_missed.ensures ∙ c.if-is_missed.false in
    let more = misses_more documents c.args.store items n c.index-items-n.result c.loop-n-test.true in
    sym (more ∙ ap (λ (b : Bool). b || misses documents c.args.store (take (n + 1) items) (drop (n + 1) items)) here) ∙ c.loop-n.invariant
