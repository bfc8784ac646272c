use Rattle.std.proofs.Common.{arith, rules}
use Rattle.doc_stream.proofs.Puts.{left_within, put_more}
use Rattle.doc_stream.proofs.tail.Tail.put_bytes.Goals as goal

pub put_some-left-requires-clause-low : goal.put_some-left-requires-clause-low
put_some-left-requires-clause-low c =
    let within = left_within c.args.rev c.args.bytes.now c.loop-left.left.now c.args.self.now c.loop-left.self c.args.out.now.items c.loop-left.out.items c.loop-left.invariant.so_far in
    omega (arith, c.requires.low)

pub put_some-left-requires-clause-room : goal.put_some-left-requires-clause-room
put_some-left-requires-clause-room c =
    let within = left_within c.args.rev c.args.bytes.now c.loop-left.left.now c.args.self.now c.loop-left.self c.args.out.now.items c.loop-left.out.items c.loop-left.invariant.so_far in
    omega (arith, c.requires.room, c.args.out.now.ok.0, c.loop-left.out.ok.0)

pub loop-left-preserved : goal.loop-left-preserved
loop-left-preserved c =
    let put = c.put_some-left.ensures.put in
    record {
      so_far = put_more c.args.rev c.args.bytes.now c.loop-left.left.now put.0 c.put_some-left.result.now c.args.self.now c.loop-left.self c.put_some-left.new.self c.args.out.now.items c.loop-left.out.items c.put_some-left.new.out.items c.loop-left.invariant.so_far put.1 put.3 c.put_some-left.ensures.not_full;
      capacity = search rules;
    }
