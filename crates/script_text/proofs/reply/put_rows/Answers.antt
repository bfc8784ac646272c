use Rattle.std.proofs.Common.{ℕ, List, ◌++◌, ◌∷◌, length, take, ap, sym, ◌∙◌, codes}
use Rattle.std.specs.List.{flat_map}
use Rattle.std.specs.Fmt.{decimal}
use Rattle.script_text.specs.Words.{spaced}
use Rattle.script_text.specs.Replies.{row_words}
use Rattle.script_text.proofs.Splitting.{spaced-append, flat_map_take}
use Rattle.script_text.proofs.reply.put_rows.Goals as goal

pub loop-row-preserved : goal.loop-row-preserved
loop-row-preserved c =
    let xs = c.args.rows.now in
    let i = c.loop-row.row-index in
    let x = c.row-item.result in
    let front = codes "list" ∷ decimal (length xs) ∷ flat_map row_words (take i xs) in
    c.in_ok-put_row.ensures.ok ∙ ap (λ (r : List ℕ). r ++ spaced (row_words x)) c.loop-row.invariant ∙ sym (spaced-append c.args.out.now front (row_words x))
    ∙ ap (λ (ws : List (List ℕ)). c.args.out.now ++ spaced (codes "list" ∷ decimal (length xs) ∷ ws)) (sym (flat_map_take row_words xs i x c.row-item.is c.loop-row-test.true))
