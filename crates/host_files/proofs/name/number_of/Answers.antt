use Rattle.std.proofs.Common.{◌∙◌, sym, subst, List, ℕ}
use Rattle.std.specs.Str.Parse.{ParsesUnsigned}
use Rattle.host_files.proofs.Decimals.{padded_is_none, not_text_is_none, parsed_is}
use Rattle.host_files.proofs.name.number_of.Goals as goal

pub returns-then-is_padded : goal.returns-then-is_padded
returns-then-is_padded c = padded_is_none c.args.word.now (sym c.is_padded.ensures ∙ c.if-is_padded.true)

pub returns-in-Ok : goal.returns-in-Ok
returns-in-Ok c =
    let parses = subst (λ (w : List ℕ). ParsesUnsigned 64 10 w c.parse.result) c.in-Ok.ensures.cases.0 c.parse.ensures.value.0 in
    c.ok.ensures.value ∙ parsed_is c.args.word.now c.parse.result (sym c.is_padded.ensures ∙ c.if-is_padded.false) parses

pub returns-in-Err : goal.returns-in-Err
returns-in-Err c = not_text_is_none c.args.word.now c.in-Err.ensures.cases.0
