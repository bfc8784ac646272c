use Rattle.std.proofs.Common.{ℕ, List, length, Some, sym, ap, ◌∙◌}
use Rattle.std.proofs.lemmas.Bool.{eqb-true}
use Rattle.script_text.specs.Reading.{bytes_at}
use Rattle.script_text.proofs.Options.{full_from}
use Rattle.script_text.proofs.Loops.{with_bytes, bytes_go_on, bytes_end, bytes_are_done}
use Rattle.script_text.proofs.bytes.spelled_bytes.Goals as goal

pub loop-rest-preserved : goal.loop-rest-preserved
loop-rest-preserved c =
    let h = c.loop-rest.invariant in
    let rest = c.loop-rest.rest.now in
    let word = c.args.word.now in
    let full = full_from (length rest) (sym c.is_empty.ensures ∙ c.loop-rest-test.true) in
    let next = bytes_go_on c.loop-rest.bytes.items h.0 rest c.in-Some.byte c.in-Some.after.now (bytes_at (length word) word) full h.1 (sym c.in-Some.ensures.value) c.in-Some.ensures.shorter h.2 in
    (next.0, next.1, ap (λ (t : List ℕ). with_bytes t (bytes_at next.0 c.in-Some.after.now)) c.in_ok-push.ensures.items ∙ next.2)

pub returns-in_default : goal.returns-in_default
returns-in_default c =
    let h = c.loop-rest.invariant in
    let rest = c.loop-rest.rest.now in
    let word = c.args.word.now in
    let full = full_from (length rest) (sym c.is_empty.ensures ∙ c.loop-rest-test.true) in
    bytes_end c.loop-rest.bytes.items h.0 rest (bytes_at (length word) word) full h.1 (sym c.in_default.ensures.value) h.2

pub returns : goal.returns
returns c =
    let h = c.loop-rest.invariant in
    let rest = c.loop-rest.rest.now in
    let word = c.args.word.now in
    let none = eqb-true (length rest) 0 (sym c.is_empty.ensures ∙ c.loop-rest-test.false) in
    bytes_are_done c.loop-rest.bytes.items h.0 rest (bytes_at (length word) word) none h.2 ∙ ap (λ (t : List ℕ). Some t) (sym c.from_vec.ensures)
