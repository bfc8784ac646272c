use Rattle.std.proofs.Common.{ap, sym, ◌∙◌, map, codes}
use Rattle.std.proofs.lemmas.Bool.{false≢true}
use Rattle.std.specs.String.{string_bytes}
use Rattle.play_run.proofs.Words.{two_words, both_words}
use Rattle.play_run.proofs.program.are_words.Goals as goal

pub returns-then-first : goal.returns-then-first
returns-then-first c =
    let both = ap (map string_bytes) (two_words c.args.words.now c.index-words-0.result c.index-words-1.result c.if-words-ne2.false c.index-words-0.is c.index-words-1.is) in
    let told = both_words (string_bytes c.index-words-0.result) (string_bytes c.index-words-1.result) (codes "play") (codes "--memory") _ _ (sym c.if-first.true ∙ c.is_word-first.ensures) c.is_word-second.ensures in
    (λ is. both ∙ told.0 is, λ are. told.1 (sym both ∙ are))

pub returns-else-first : goal.returns-else-first
returns-else-first c =
    let both = ap (map string_bytes) (two_words c.args.words.now c.index-words-0.result c.index-words-1.result c.if-words-ne2.false c.index-words-0.is c.index-words-1.is) in
    let told = both_words (string_bytes c.index-words-0.result) (string_bytes c.index-words-1.result) (codes "play") (codes "--memory") _ _ (sym c.if-first.false ∙ c.is_word-first.ensures) c.is_word-second.ensures in
    (λ is. absurd (false≢true (sym c.if-first.false ∙ is)), λ are. absurd (false≢true (told.1 (sym both ∙ are))))
