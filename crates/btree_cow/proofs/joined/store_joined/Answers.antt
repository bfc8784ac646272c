use Rattle.std.proofs.Common.{arith}
use Rattle.btree_cow.proofs.Growth.{stores_one}
use Rattle.btree_cow.proofs.Additions.{appends_on, back_rises, front_rises, stores_halves}
use Rattle.btree_cow.proofs.Copies.{makes_one, makes_two}
use Rattle.btree_cow.proofs.joined.store_joined.Goals as goal

pub returns-then-entries-le-MOST-clause-stores : goal.returns-then-entries-le-MOST-clause-stores
returns-then-entries-le-MOST-clause-stores g c = λ told. stores_one _ _ _ _ _ (c.in_ok-at.ensures.added told)

pub add_node-requires-2-clause-rise : goal.add_node-requires-2-clause-rise
add_node-requires-2-clause-rise g c = front_rises c.args.entries.now c.split_at.result.0.now c.split_at.result.1.now c.split_at.ensures.by_index.0 c.requires.rise

pub add_node-requires-3-clause-rise : goal.add_node-requires-3-clause-rise
add_node-requires-3-clause-rise g c = back_rises c.args.entries.now c.split_at.result.0.now c.split_at.result.1.now c.split_at.ensures.by_index.0 c.requires.rise

pub returns-in_err-right-clause-appends : goal.returns-in_err-right-clause-appends
returns-in_err-right-clause-appends g c = appends_on _ _ _ _ _ _ _ c.in_ok-left.ensures.appends c.in_err-right.ensures.appends

pub returns-clause-stores : goal.returns-clause-stores
returns-clause-stores g c = λ told.
    stores_halves c.args.leaf c.args.entries.now c.split_at.result.0.now c.split_at.result.1.now _ _ _ _ _ _ _ c.split_at.ensures.by_index.0 (omega (arith, c.split_at.ensures.front_len)) (omega (arith, c.split_at.ensures.back_len)) c.requires.rise
    (c.in_ok-left.ensures.added told) (c.in_ok-right.ensures.added told) c.least_chunk.ensures c.least_chunk-2.ensures

pub returns-clause-appends : goal.returns-clause-appends
returns-clause-appends g c = appends_on _ _ _ _ _ _ _ c.in_ok-left.ensures.appends c.in_ok-right.ensures.appends

pub returns-then-entries-le-MOST-clause-makes : goal.returns-then-entries-le-MOST-clause-makes
returns-then-entries-le-MOST-clause-makes g c = λ told. makes_one _ _ _ _ _ (c.in_ok-at.ensures.added told)

pub returns-clause-makes : goal.returns-clause-makes
returns-clause-makes g c = λ told.
    makes_two c.args.leaf c.args.entries.now c.split_at.result.0.now c.split_at.result.1.now _ _ _ _ _ _ _ c.split_at.ensures.by_index.0
    (omega (arith, c.if-entries-le-MOST.false, c.requires.most)) (omega (arith, c.split_at.ensures.front_len, c.if-entries-le-MOST.false, c.requires.most))
    (c.in_ok-left.ensures.added told) (c.in_ok-right.ensures.added told) c.least_chunk.ensures c.least_chunk-2.ensures
