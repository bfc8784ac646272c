use Rattle.std.proofs.Common.{◌≡◌, ℕ, ◌+◌, ◌-◌, ◌<◌, List, ◌++◌, ap, sym, subst, ◌∙◌, string_bytes, map, take, drop, length, Some}
use Rattle.std.specs.Prelude.{IfOk, IsOkAnd}
use Rattle.store_settings.specs.Profile.{AskFor, AreWords, request_of, Text}
use Rattle.store_settings.specs.Reading.{read_all, start, command_of}
use Rattle.store_settings.proofs.Prefixes.{split_first, all_of_command, read_nil, asked_taken, asked_all, not_asked, none_whole, none_taken, bumped, rest_length}
use Rattle.store_settings.proofs.words.read_words.Goals as goal

pub returns-in-Ok-clause-taken : goal.returns-in-Ok-clause-taken
returns-in-Ok-clause-taken c =
    let words = c.args.words.now in
    let first = string_bytes c.first-item.result in
    let rest = map string_bytes (take (length words - 1) (drop 1 words)) in
    let split = split_first string_bytes words c.first-item.result c.in-len1-up.len_at_least c.first-item.is in
    let head : command_of first ≡ Some c.in-Some.command = ap command_of (sym c.as_bytes.ensures.value) ∙ (sym c.command_of.ensures ∙ c.in-Some.is) in
    let all = ap read_all split ∙ all_of_command first rest c.in-Some.command head in
    let whole = c.end.ensures ∙ (sym (read_nil _) ∙ (c.in-Ok.ensures.ok ∙ sym all)) in
    subst (λ r. IfOk r (λ a. AskFor (map string_bytes words) (request_of a))) (sym c.ok_or.ensures.value) (asked_taken c.end.result (map string_bytes words) whole)

pub returns-in-Ok-clause-all : goal.returns-in-Ok-clause-all
returns-in-Ok-clause-all c =
    let words = c.args.words.now in
    let first = string_bytes c.first-item.result in
    let rest = map string_bytes (take (length words - 1) (drop 1 words)) in
    let split = split_first string_bytes words c.first-item.result c.in-len1-up.len_at_least c.first-item.is in
    let head : command_of first ≡ Some c.in-Some.command = ap command_of (sym c.as_bytes.ensures.value) ∙ (sym c.command_of.ensures ∙ c.in-Some.is) in
    let all = ap read_all split ∙ all_of_command first rest c.in-Some.command head in
    let whole = c.end.ensures ∙ (sym (read_nil _) ∙ (c.in-Ok.ensures.ok ∙ sym all)) in
    λ request ask. subst (λ r. IsOkAnd r (λ a. request_of a ≡ request)) (sym c.ok_or.ensures.value) (asked_all c.end.result (map string_bytes words) whole request ask)

pub returns-in-Err-clause-all : goal.returns-in-Err-clause-all
returns-in-Err-clause-all c =
    let words = c.args.words.now in
    let first = string_bytes c.first-item.result in
    let rest = map string_bytes (take (length words - 1) (drop 1 words)) in
    let split = split_first string_bytes words c.first-item.result c.in-len1-up.len_at_least c.first-item.is in
    let head : command_of first ≡ Some c.in-Some.command = ap command_of (sym c.as_bytes.ensures.value) ∙ (sym c.command_of.ensures ∙ c.in-Some.is) in
    let all = ap read_all split ∙ all_of_command first rest c.in-Some.command head in
    let none = all ∙ none_whole (start c.in-Some.command) rest (c.in-Err.index + 1) c.in-Err.ensures.err.1 in
    λ request ask. not_asked (map string_bytes words) request none ask

pub returns-in-Err-clause-word : goal.returns-in-Err-clause-word
returns-in-Err-clause-word c =
    let words = c.args.words.now in
    let first = string_bytes c.first-item.result in
    let rest = map string_bytes (take (length words - 1) (drop 1 words)) in
    let split = split_first string_bytes words c.first-item.result c.in-len1-up.len_at_least c.first-item.is in
    let head : command_of first ≡ Some c.in-Some.command = ap command_of (sym c.as_bytes.ensures.value) ∙ (sym c.command_of.ensures ∙ c.in-Some.is) in
    λ index e.
    let here : c.in-Err.index + 1 ≡ index = bumped (c.in-Err.index + 1) index e in
    let less : c.in-Err.index + 1 < length words = rest_length words c.in-Err.index c.in-len1-up.len_at_least c.in-Err.ensures.err.0 in
    subst (λ (n : ℕ). (n < length words) × ((more : List Text) → AreWords (take (n + 1) (map string_bytes words) ++ more) → ⊥)) here
    (less, λ more are. none_taken first rest c.in-Some.command (c.in-Err.index + 1) head c.in-Err.ensures.err.1 more (subst (λ (ws : List Text). AreWords (take (c.in-Err.index + 1 + 1) ws ++ more)) split are))
