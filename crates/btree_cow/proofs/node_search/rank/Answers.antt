use Rattle.std.proofs.Common.{arith, sym, ◌∙◌}
use Rattle.btree_cow.specs.Walks.{is_late}
use Rattle.btree_cow.proofs.Ranks.{start, lower, higher, rank_is}
use Rattle.btree_cow.proofs.node_search.rank.Goals as goal

pub loop-low-init : goal.loop-low-init
loop-low-init c = record {
  low_first = omega arith;
  within = omega arith;
  between = λ leaf entries node whole. start (is_late c.args.aim.with c.args.aim.up c.args.aim.chunk) entries c.args.count whole;
}

pub loop-low-preserved-then-is_behind : goal.loop-low-preserved-then-is_behind
loop-low-preserved-then-is_behind c = record {
  low_first = omega arith;
  within = omega arith;
  between = λ leaf entries node whole.
      higher c.args.aim.with c.args.aim.up c.args.aim.chunk entries c.loop-low.low c.loop-low.high _ c.entry-chunk.result node.rise (c.loop-low.invariant.between leaf entries node whole)
      (c.entry-chunk.ensures leaf entries node (omega arith)) (sym (c.is_behind.ensures c.entry-chunk.result.1) ∙ c.if-is_behind.true);
}

pub loop-low-preserved : goal.loop-low-preserved
loop-low-preserved c = record {
  low_first = omega arith;
  within = omega arith;
  between = λ leaf entries node whole.
      lower c.args.aim.with c.args.aim.up c.args.aim.chunk entries c.loop-low.low c.loop-low.high _ c.entry-chunk.result node.rise (c.loop-low.invariant.between leaf entries node whole)
      (c.entry-chunk.ensures leaf entries node (omega arith)) (sym (c.is_behind.ensures c.entry-chunk.result.1) ∙ c.if-is_behind.false);
}

pub returns-clause-rank : goal.returns-clause-rank
returns-clause-rank c = λ leaf entries node whole.
    rank_is (is_late c.args.aim.with c.args.aim.up c.args.aim.chunk) entries c.loop-low.low c.loop-low.high (omega arith) (omega arith) (c.loop-low.invariant.between leaf entries node whole)
