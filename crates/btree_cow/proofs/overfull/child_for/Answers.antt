use Rattle.std.proofs.Common.{inl, inr, refl}
use Rattle.btree_cow.proofs.WithEntries.{child_of}
use Rattle.btree_cow.proofs.overfull.child_for.Goals as goal

pub returns-else-at-block-clause-found : goal.returns-else-at-block-clause-found
returns-else-at-block-clause-found c = child_of _ _ _ _ (0, 0) c.child_place-place.ensures.cut refl

pub returns-then-at-block-clause-none : goal.returns-then-at-block-clause-none
returns-then-at-block-clause-none c = elim c.if-at-block.either [
  | inl none ↦ inl none
  | inr above ↦ inr (c.child_place-place.result, _, child_of _ _ _ _ (0, 0) c.child_place-place.ensures.cut refl, above.1)
]
