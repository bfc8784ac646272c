use Rattle.std.proofs.Common.{List, map, sym, subst}
use Rattle.forest_model.specs.Stored.{StoreRow}
use Rattle.kvs_names.specs.Row.{row_of}
use Rattle.kvs_names.specs.Table.{IsTable}
use Rattle.kvs_names.proofs.Tables.{table_counted}
use Rattle.kvs_names.proofs.table.Names.count.Goals as goal

pub invariant_of-self : goal.invariant_of-self
invariant_of-self c =
    let P : List StoreRow → Type 0 = λ rows. IsTable rows c.self.inside.next in
    subst P (sym c.count_in.ensures) (table_counted (map row_of c.self.inside.rows.items) c.self.inside.next c.args.id c.args.seq c.args.documents c.self.invariant)
