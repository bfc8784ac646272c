use Rattle.std.proofs.Common.{ℕ, List, ◌++◌, ◌∷◌, [], take, get_or, map, ap, sym, ◌∙◌, codes}
use Rattle.std.specs.Fmt.{decimal}
use Rattle.std.proofs.lemmas.List.{map_more}
use Rattle.script_text.specs.Words.{spaced}
use Rattle.script_text.proofs.Splitting.{spaced-append}
use Rattle.script_text.proofs.reply.put_markers.Goals as goal

pub loop-number-preserved : goal.loop-number-preserved
loop-number-preserved c =
    let xs = c.args.numbers.now in
    let i = c.loop-number.number-index in
    let word = decimal (get_or xs i 0) in
    let so_far = codes "markers" ∷ map decimal (take i xs) in
    c.in_ok-number.ensures.ok ∙ ap (λ (r : List ℕ). r ++ spaced (word ∷ [])) c.loop-number.invariant ∙ sym (spaced-append c.args.out.now so_far (word ∷ []))
    ∙ ap (λ (ws : List (List ℕ)). c.args.out.now ++ spaced (codes "markers" ∷ ws)) (sym (map_more decimal xs i 0 c.loop-number-test.true))
