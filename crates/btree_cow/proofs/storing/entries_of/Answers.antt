use Rattle.std.proofs.Common.{◌∙◌, arith}
use Rattle.std.proofs.lemmas.List.{take_all}
use Rattle.btree_cow.proofs.Readings.{read_more}
use Rattle.btree_cow.proofs.storing.entries_of.Goals as goal

pub loop-n-preserved : goal.loop-n-preserved
loop-n-preserved c = record {
  long = omega (arith, c.push.ensures.len, c.loop-n.invariant.long);
  read = λ leaf entries node count. read_more entries c.loop-n.entries.items c.push.new.self.items c.loop-n.n c.entry.result (c.loop-n.invariant.read leaf entries node count) (c.entry.ensures leaf entries node (omega (arith, count))) c.push.ensures.items;
}

pub returns : goal.returns
returns c = λ leaf entries node count. c.loop-n.invariant.read leaf entries node count ∙ take_all c.loop-n.n entries (omega (arith, count))
