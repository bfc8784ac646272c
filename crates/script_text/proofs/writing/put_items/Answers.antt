use Rattle.std.proofs.Common.{ℕ, List, ◌++◌, ◌∷◌, take, ap, sym, ◌∙◌, codes}
use Rattle.std.specs.List.{flat_map}
use Rattle.script_text.specs.Words.{spaced}
use Rattle.script_text.specs.Grammar.{item_words}
use Rattle.script_text.proofs.Splitting.{spaced-append, flat_map_take}
use Rattle.script_text.proofs.writing.put_items.Goals as goal

pub loop-item-preserved : goal.loop-item-preserved
loop-item-preserved c =
    let xs = c.args.items.now in
    let i = c.loop-item.item-index in
    let x = c.item-item.result in
    c.in_ok-put_item.ensures.ok ∙ ap (λ (r : List ℕ). r ++ spaced (item_words x)) c.loop-item.invariant
    ∙ sym (spaced-append c.args.out.now (codes "batch" ∷ flat_map item_words (take i xs)) (item_words x))
    ∙ ap (λ (ws : List (List ℕ)). c.args.out.now ++ spaced (codes "batch" ∷ ws)) (sym (flat_map_take item_words xs i x c.item-item.is c.loop-item-test.true))
