use Rattle.std.proofs.Common.{◌≡◌, rules, length, sym, ◌∙◌, arith}
use Rattle.wal_index.specs.Rows.{pair_of}
use Rattle.wal_index.proofs.MergedRows.{first_of_settled, first_of_recent}
use Rattle.wal_index.proofs.Orders.{keys_total}
use Rattle.wal_index.proofs.in_order.InOrder.take_first.Goals as goal

pub returns-then-is_empty-2-clause-first : goal.returns-then-is_empty-2-clause-first
returns-then-is_empty-2-clause-first c =
    let rows = c.requires.rows in
    let none : length c.args.self.now.settled.now ≡ 0 = search rules in
    first_of_recent keys_total pair_of c.args.self.now.settled.now c.args.self.now.recent.now c.take-then-is_empty-2.new.rows.now c.take-then-is_empty-2.result.now c.take-then-is_empty-2.ensures rows.first_sorted rows.second_sorted rows.apart (λ l d. absurd (omega (arith, none)))

pub returns-then-is_lower-clause-first : goal.returns-then-is_lower-clause-first
returns-then-is_lower-clause-first c =
    first_of_settled keys_total pair_of c.args.self.now.settled.now c.take-then-is_lower.new.rows.now c.args.self.now.recent.now c.take-then-is_lower.result.now c.take-then-is_lower.ensures c.requires.rows.second_sorted (λ l d. sym c.if-is_lower.true ∙ c.is_lower.ensures d)

pub returns-else-is_lower-clause-first : goal.returns-else-is_lower-clause-first
returns-else-is_lower-clause-first c =
    let rows = c.requires.rows in
    first_of_recent keys_total pair_of c.args.self.now.settled.now c.args.self.now.recent.now c.take-else-is_lower.new.rows.now c.take-else-is_lower.result.now c.take-else-is_lower.ensures rows.first_sorted rows.second_sorted rows.apart (λ l d. sym c.if-is_lower.false ∙ c.is_lower.ensures d)
