use Rattle.std.proofs.Common.{List, ℕ, ◌++◌, ◌∷◌, [], ap, ◌∙◌, lit<}
use Rattle.std.specs.String.{string_bytes}
use Rattle.std.proofs.lemmas.Str.{encode_ascii}
use Rattle.script_text.proofs.Splitting.{word_written}
use Rattle.script_text.proofs.writer.Writer.word.Goals as goal

pub returns-clause-ok : goal.returns-clause-ok
returns-clause-ok c =
    let space = c.in_ok-push.ensures.bytes ∙ ap (λ (r : List ℕ). string_bytes c.self.inside.text ++ r) (encode_ascii 32 (lit< tt)) ∙ ap (λ (r : List ℕ). r ++ 32 ∷ []) c.self.view_is in
    word_written c.args.self.now (string_bytes c.push.new.self) (string_bytes c.push_str.new.self) c.args.word.now space c.in_ok-push_str.ensures.bytes
