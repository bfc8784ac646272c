use Rattle.std.proofs.Common.{◌≡◌, List, ℕ, ◌++◌, ◌∷◌, [], OnOk, subst, ap, sym, ◌∙◌, lit<}
use Rattle.std.specs.String.{string_bytes}
use Rattle.std.proofs.lemmas.Str.{encode_ascii}
use Rattle.script_text.specs.Words.{word_of, spaced}
use Rattle.script_text.proofs.Spelled.{word_of-empty, word_of-dash, word_of-other}
use Rattle.std.proofs.lemmas.Bool.{both_ways}
use Rattle.script_text.proofs.Spelled.{same_list, same_test}
use Rattle.script_text.proofs.Splitting.{word_written}
use Rattle.script_text.proofs.writer.Writer.text.Goals as goal

pub returns-then-is_empty-clause-ok : goal.returns-then-is_empty-clause-ok
returns-then-is_empty-clause-ok c =
    subst (λ (w : List ℕ). OnOk c.word.result (c.word.new.self ≡ c.args.self.now ++ spaced (w ∷ []))) (word_of-empty c.args.bytes.now (sym c.is_empty.ensures ∙ c.if-is_empty.true)) c.word.ensures.ok

pub returns-then-eq-clause-ok : goal.returns-then-eq-clause-ok
returns-then-eq-clause-ok c =
    let dash = same_list c.args.bytes.now c.as_slice.result.now (sym c.eq.ensures ∙ c.if-eq.true) ∙ c.as_slice.ensures in
    subst (λ (w : List ℕ). OnOk c.word-then-eq.result (c.word-then-eq.new.self ≡ c.args.self.now ++ spaced (w ∷ []))) (word_of-dash c.args.bytes.now dash) c.word-then-eq.ensures.ok

pub returns-clause-ok : goal.returns-clause-ok
returns-clause-ok c =
    let bytes = c.args.bytes.now in
    let space = c.in_ok-push.ensures.bytes ∙ ap (λ (r : List ℕ). string_bytes c.self.inside.text ++ r) (encode_ascii 32 (lit< tt)) ∙ ap (λ (r : List ℕ). r ++ 32 ∷ []) c.self.view_is in
    let other = word_of-other bytes (sym c.is_empty.ensures ∙ c.if-is_empty.false) (λ h. both_ways c.eq.result c.if-eq.false (c.eq.ensures ∙ same_test bytes c.as_slice.result.now (h ∙ sym c.as_slice.ensures))) in
    word_written c.args.self.now (string_bytes c.push.new.self) (string_bytes c.push_bytes.new.out) (word_of bytes) space (c.in_ok-push_bytes.ensures.ok ∙ ap (λ (r : List ℕ). string_bytes c.push.new.self ++ r) (sym other))
