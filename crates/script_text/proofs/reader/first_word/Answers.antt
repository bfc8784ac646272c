use Rattle.std.proofs.Common.{◌≡◌, ◌==◌, ◌+◌, ℕ, List, ◌∷◌, take, ap, sym, ◌∙◌, false}
use Rattle.std.proofs.lemmas.List.{take_rest, take_all}
use Rattle.std.proofs.lemmas.List.Elements.{All-more, All-same}
use Rattle.std.proofs.lemmas.Bool.{ne_eqb}
use Rattle.script_text.proofs.Splitting.{words_in-at, words_in-alone}
use Rattle.script_text.specs.Reading.{words_in}
use Rattle.script_text.proofs.reader.first_word.Goals as goal

pub returns-then-byte-eq32 : goal.returns-then-byte-eq32
returns-then-byte-eq32 c =
    let text = c.args.text.now in
    let i = c.loop-i.i in
    words_in-at text i c.loop-i-test.true c.loop-i.invariant c.if-byte-eq32.true ∙ ap (λ (r : List ℕ). take i text ∷ words_in r) (sym (take_rest text (i + 1)))

pub loop-i-preserved : goal.loop-i-preserved
loop-i-preserved c =
    All-more (λ b. (b == 32) ≡ false) c.args.text.now c.loop-i.i 0 c.loop-i-test.true c.loop-i.invariant (ne_eqb _ _ c.if-byte-eq32.false)

pub returns : goal.returns
returns c = words_in-alone c.args.text.now (All-same (λ b. (b == 32) ≡ false) c.args.text.now (take c.loop-i.i c.args.text.now) (sym (take_all c.loop-i.i c.args.text.now c.loop-i-test.false)) c.loop-i.invariant)
