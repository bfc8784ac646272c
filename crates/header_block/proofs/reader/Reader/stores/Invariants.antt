use Rattle.header_block.proofs.ReadBack.{HasRead}
use Rattle.header_block.proofs.reader.Reader.stores.Given as goal

abbrev pub invariant-loop : goal.invariant-loop
invariant-loop l = HasRead l.fn.self.rest.now l.count l.counter l.stores l.self.rest.now
