use Rattle.std.proofs.Common.{◌≡◌, length, vec_capacity}
use Rattle.doc_stream.proofs.Puts.{PutSoFar}
use Rattle.doc_stream.proofs.tail.Tail.put_bytes.Given as goal

abbrev pub invariant-loop-left : goal.invariant-loop-left
invariant-loop-left l = record {
  so_far : PutSoFar l.rev l.bytes l.left l.initial.self l.self l.initial.out.items l.out.items;
  capacity : vec_capacity l.out ≡ vec_capacity l.initial.out;
}

abbrev pub decreases-loop-left : goal.decreases-loop-left
decreases-loop-left l = length l.left
