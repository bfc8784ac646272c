use Rattle.std.proofs.Common.{arith, ap, ◌∙◌, ℕ, List, length}
use Rattle.key_chunks.specs.Chunks.{chunks_of}
use Rattle.key_chunks.proofs.Cutting.{one_more, last_one}
use Rattle.key_chunks.proofs.GroupOrder.{list_long, list_short}
use Rattle.key_chunks.proofs.writing.chunks.Goals as goal

pub loop-rest-preserved : goal.loop-rest-preserved
loop-rest-preserved c = record {
  some = omega (arith, c.split_at.ensures.back_len, c.loop-rest-test.true);
  together = one_more c.loop-rest.list.items c.push-in-loop-rest.new.self.items c.loop-rest.rest.now c.split_at.result.1.now (chunks_of c.args.store c.args.key.now) c.first_chunk.result c.loop-rest-test.true c.loop-rest.invariant.together c.in_ok-push-2.ensures.items c.first_chunk.ensures c.split_at.ensures.back;
}

pub returns-clause-list : goal.returns-clause-list
returns-clause-list c =
    c.from_vec.ensures
    ∙ last_one c.loop-rest.list.items c.push-2.new.self.items c.loop-rest.rest.now (chunks_of c.args.store c.args.key.now) c.first_chunk-2.result c.loop-rest-test.false c.loop-rest.invariant.together c.in_ok-push-3.ensures.items c.first_chunk-2.ensures

pub returns-clause-count : goal.returns-clause-count
returns-clause-count c = ap (λ (l : List ℕ). length l) (returns-clause-list c) ∙ list_long c.args.store c.args.key.now c.requires.0

pub returns-clause-most : goal.returns-clause-most
returns-clause-most c = list_short c.from_vec.result c.args.key.now c.requires.1 (returns-clause-count c)
