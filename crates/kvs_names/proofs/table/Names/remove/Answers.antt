use Rattle.std.proofs.Common.{map, arith}
use Rattle.kvs_names.specs.Row.{row_of}
use Rattle.kvs_names.proofs.Tables.{table_without}
use Rattle.kvs_names.proofs.table.Names.remove.Goals as goal

pub invariant_of-self : goal.invariant_of-self
invariant_of-self c = rw c.remove_from.ensures (table_without (map row_of c.self.inside.rows.items) c.self.inside.next c.args.id (λ is. absurd (omega (arith, c.if-id-eq0.false))) c.self.invariant)
