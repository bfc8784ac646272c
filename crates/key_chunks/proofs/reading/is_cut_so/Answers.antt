use Rattle.std.proofs.Common.{◌∙◌, ap, List, ℕ, sym, ◌∷◌, []}
use Rattle.std.specs.Prelude.{nat_eq}
use Rattle.std.specs.Cmp.Lexicographic.{pointwise}
use Rattle.key_chunks.specs.Chunks.{groups_of}
use Rattle.key_chunks.proofs.Cutting.{none_left, other_chunk, same_chunk, last_chunk}
use Rattle.key_chunks.proofs.reading.is_cut_so.Goals as goal

pub returns-in_default : goal.returns-in_default
returns-in_default c = none_left c.loop-rest.rest.now c.loop-rest.left.now c.loop-rest-test.true c.in_default.ensures.cases ∙ c.loop-rest.invariant

pub returns-then-first-first_chunk : goal.returns-then-first-first_chunk
returns-then-first-first_chunk c =
    other_chunk c.loop-rest.rest.now c.loop-rest.left.now c.in-Some.others.now c.in-Some.first.now c.loop-rest-test.true c.in-Some.ensures.cases.0 (λ same. c.if-first-first_chunk.true (same ∙ sym c.first_chunk.ensures))
    ∙ c.loop-rest.invariant

pub loop-rest-preserved : goal.loop-rest-preserved
loop-rest-preserved c =
    same_chunk c.loop-rest.rest.now c.split_at.result.1.now c.loop-rest.left.now c.in-Some.others.now c.in-Some.first.now (pointwise nat_eq (groups_of c.args.key.now) c.args.groups.now)
    c.loop-rest-test.true c.in-Some.ensures.cases.0 (c.if-first-first_chunk.false ∙ c.first_chunk.ensures) c.split_at.ensures.back c.loop-rest.invariant

pub returns : goal.returns
returns c =
    c.eq.ensures
    ∙ ap (λ (l : List ℕ). pointwise nat_eq l c.loop-rest.left.now) (c.as_slice.ensures ∙ ap (λ (n : ℕ). n ∷ []) c.first_chunk-2.ensures)
    ∙ last_chunk c.loop-rest.rest.now c.loop-rest.left.now c.loop-rest-test.false
    ∙ c.loop-rest.invariant
