use Rattle.std.proofs.Common.{◌∙◌, ap, sym}
use Rattle.store_settings.specs.Reading.{joined_or, plain_or_stray}
use Rattle.store_settings.proofs.Looks.{look_dashes, look_memory, look_max, look_joined}
use Rattle.store_settings.proofs.token.token_of.Goals as goal

pub returns-then-is_text : goal.returns-then-is_text
returns-then-is_text c = look_dashes c.args.word.now (sym c.is_text.ensures ∙ c.if-is_text.true)

pub returns-then-is_text-2 : goal.returns-then-is_text-2
returns-then-is_text-2 c = look_memory c.args.word.now (sym c.is_text.ensures ∙ c.if-is_text.false) (sym c.is_text-2.ensures ∙ c.if-is_text-2.true)

pub returns-then-is_text-3 : goal.returns-then-is_text-3
returns-then-is_text-3 c = look_max c.args.word.now (sym c.is_text.ensures ∙ c.if-is_text.false) (sym c.is_text-2.ensures ∙ c.if-is_text-2.false) (sym c.is_text-3.ensures ∙ c.if-is_text-3.true)

pub returns-in-Some : goal.returns-in-Some
returns-in-Some c =
    let behind = rw c.in-Some.is at c.value_of_max.ensures in
    ap (λ o. joined_or o (plain_or_stray c.args.word.now)) behind
    ∙ look_joined c.args.word.now (sym c.is_text.ensures ∙ c.if-is_text.false) (sym c.is_text-2.ensures ∙ c.if-is_text-2.false) (sym c.is_text-3.ensures ∙ c.if-is_text-3.false)

pub returns-in-None : goal.returns-in-None
returns-in-None c =
    let behind = rw c.in-None.is at c.value_of_max.ensures in
    c.plain_or_stray.ensures ∙ (ap (λ o. joined_or o (plain_or_stray c.args.word.now)) behind
    ∙ look_joined c.args.word.now (sym c.is_text.ensures ∙ c.if-is_text.false) (sym c.is_text-2.ensures ∙ c.if-is_text-2.false) (sym c.is_text-3.ensures ∙ c.if-is_text-3.false))
