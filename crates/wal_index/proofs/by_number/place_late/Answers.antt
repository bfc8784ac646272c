use Rattle.std.proofs.Common.{◌≡◌, ◌+◌, ◌-◌, Bool, T, length, rules, refl, ◌∙◌, ap, subst}
use Rattle.std.specs.Ordering.{is_lt}
use Rattle.wal_index.specs.declared.by_number.Numbered.{Numbered}
use Rattle.wal_index.specs.Numbers.{number_cmp, numbers_at, mark_of}
use Rattle.wal_index.proofs.Orders.{numbers_total}
use Rattle.wal_index.proofs.Placed.{gap_behind}
use Rattle.wal_index.proofs.by_number.place_late.Goals as goal

pub returns-then-is_lt-clause-gap : goal.returns-then-is_lt-clause-gap
returns-then-is_lt-clause-gap c =
    let q = numbers_at c.args.store c.args.seq c.args.key.now in
    let xs = c.args.numbers.now in
    let len : length c.args.numbers.now - 1 + 1 ≡ length c.args.numbers.now = search rules in
    gap_behind numbers_total mark_of q xs (length xs - 1) (length xs) c.index-numbers-count.result c.requires len refl c.index-numbers-count.is
    (subst (λ (b : Bool). T b) (c.if-is_lt.ensures ∙ ap is_lt (c.compare.ensures ∙ ap (λ (n : Numbered). number_cmp n q) c.deref.ensures)) tt)
