use Rattle.std.proofs.Common.{List, ℕ, ◌++◌, ◌∷◌, ap, sym, ◌∙◌}
use Rattle.std.specs.Fmt.{decimal}
use Rattle.script_text.proofs.Splitting.{spaced_word}
use Rattle.script_text.proofs.writer.Writer.number.Goals as goal

pub returns-clause-ok : goal.returns-clause-ok
returns-clause-ok c =
    c.in_ok-write.ensures.bytes ∙ ap (λ (r : List ℕ). r ++ 32 ∷ decimal c.args.number) c.self.view_is ∙ sym (spaced_word c.args.self.now (decimal c.args.number))
