use Rattle.std.proofs.Common.{rules}
use Rattle.std.proofs.lemmas.Fn.{always_returns_same}
use Rattle.wal_index.specs.Numbers.{number_cmp, number_of, numbers_at, mark_of}
use Rattle.wal_index.proofs.Placed.{placed_at, placed_gap}
use Rattle.wal_index.proofs.Orders.{numbers_total}
use Rattle.wal_index.proofs.by_number.place.Goals as goal

pub returns : goal.returns
returns c =
    let q = numbers_at c.args.store c.args.seq c.args.key.now in
    let found = c.binary_search_by.ensures.position (λ y. number_cmp (number_of y) q) (always_returns_same _ _ _ (λ a r f' k. search rules)) in
    record {
      at = placed_at numbers_total mark_of q c.args.numbers.now c.binary_search_by.result c.requires c.binary_search_by.ensures.bound found;
      gap = placed_gap numbers_total mark_of q c.args.numbers.now c.binary_search_by.result c.requires c.binary_search_by.ensures.bound found;
    }
