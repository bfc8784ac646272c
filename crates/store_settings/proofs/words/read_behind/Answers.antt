use Rattle.std.proofs.Common.{◌≡◌, ◌∷◌, [], ap, sym, ◌∙◌, string_bytes, map, length, arith, None, ◌≤◌}
use Rattle.std.specs.Prelude.{option_map}
use Rattle.std.proofs.lemmas.List.{length-map}
use Rattle.store_settings.specs.Reading.{read, start, step}
use Rattle.store_settings.proofs.Exact.{at}
use Rattle.store_settings.proofs.Prefixes.{take_next, take_whole, read_some, read_none}
use Rattle.store_settings.proofs.words.read_behind.Goals as goal

pub loop-index-init : goal.loop-index-init
loop-index-init c = λ more. ap (λ s. read s more) (sym c.new-reader.ensures)

pub returns-in-None-clause-err : goal.returns-in-None-clause-err
returns-in-None-clause-err c =
    let r = c.loop-index.reader in
    let s = at r.0 r.1.0 r.1.1.0 (option_map (λ d. d.now) r.1.1.1.0) r.1.1.1.1.0 in
    let word = string_bytes c.index-words-index.result in
    let stops : step s word ≡ None = ap (step s) (sym c.as_bytes.ensures.value) ∙ sym c.in-None.ensures in (
      c.loop-index-test.true,
      λ more. ap (read (start c.args.command)) (take_next string_bytes c.args.words.now c.loop-index.index c.index-words-index.result more c.loop-index-test.true c.index-words-index.is)
          ∙ (c.loop-index.invariant (word ∷ more) ∙ read_none s word more stops),
    )

pub loop-index-preserved : goal.loop-index-preserved
loop-index-preserved c =
    let r = c.loop-index.reader in
    let s = at r.0 r.1.0 r.1.1.0 (option_map (λ d. d.now) r.1.1.1.0) r.1.1.1.1.0 in
    let n = c.in-Some.next in
    let t = at n.command n.mode n.in_memory (option_map (λ d. d.now) n.dir) n.max in
    let word = string_bytes c.index-words-index.result in
    λ more. ap (read (start c.args.command)) (take_next string_bytes c.args.words.now c.loop-index.index c.index-words-index.result more c.loop-index-test.true c.index-words-index.is)
    ∙ (c.loop-index.invariant (word ∷ more) ∙ read_some s t word more (ap (step s) (sym c.as_bytes.ensures.value) ∙ sym c.in-Some.ensures))

pub returns-clause-ok : goal.returns-clause-ok
returns-clause-ok c =
    let words = c.args.words.now in
    let whole : length (map string_bytes words) ≤ c.loop-index.index = omega (arith, length-map words string_bytes, c.loop-index-test.false) in
    sym (c.loop-index.invariant []) ∙ ap (read (start c.args.command)) (take_whole string_bytes words c.loop-index.index whole)
