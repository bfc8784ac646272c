use Rattle.std.proofs.Common.{◌≡◌, ◌<◌, ◌++◌, ◌∷◌, [], true, length, map, ap, ◌∙◌, rules, arith}
use Rattle.std.specs.Prelude.{is_none}
use Rattle.std.proofs.lemmas.List.{map-append, length-map}
use Rattle.kvs_names.specs.Row.{row_of}
use Rattle.kvs_names.specs.Table.{Table, row_named}
use Rattle.kvs_names.proofs.Tables.{table_with_new}
use Rattle.kvs_names.proofs.table.Names.create.Goals as goal

pub push-requires : goal.push-requires
push-requires c = (search rules, omega (arith, c.in_default.ensures.room, ap (λ (t : Table). length t.rows) c.self.view_is, length-map c.self.inside.rows.items row_of))

pub overflow_add-self : goal.overflow_add-self
overflow_add-self c = omega (arith, c.in_default.ensures.more, ap (λ (t : Table). t.next) c.self.view_is)

pub invariant_of-self : goal.invariant_of-self
invariant_of-self c =
    let rows = map row_of c.self.inside.rows.items in
    let room : length rows < 64 = omega (arith, c.in_default.ensures.room, ap (λ (t : Table). length t.rows) c.self.view_is) in
    let is : map row_of c.push.new.self.items ≡ rows ++ row_of c.new.result ∷ [] = ap (map row_of) c.push.ensures.items ∙ map-append row_of c.self.inside.rows.items (c.new.result ∷ []) in
    let none : is_none (row_named rows c.args.name.now) ≡ true = ap (λ (t : Table). is_none (row_named t.rows c.args.name.now)) c.self.view_is ∙ c.requires in
    rw is (table_with_new rows c.self.inside.next c.args.name.now (row_of c.new.result) (ap (λ s. s.id) c.new.ensures) (ap (λ s. s.name) c.new.ensures) c.self.invariant none room)
