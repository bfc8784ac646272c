use Rattle.std.proofs.Common.{◌∙◌, sym, subst, ℕ}
use Rattle.btree_cow.specs.Growing.{IsCut}
use Rattle.btree_cow.proofs.WithEntries.{cut_at, cut_before}
use Rattle.btree_cow.proofs.overfull.child_place.Goals as goal

pub returns-then-is_at-clause-cut : goal.returns-then-is_at-clause-cut
returns-then-is_at-clause-cut c = cut_at _ _ _ c.count_below-below.ensures c.requires.rise (sym c.is_at.ensures ∙ c.if-is_at.true)

pub returns-else-is_at-clause-cut : goal.returns-else-is_at-clause-cut
returns-else-is_at-clause-cut c =
    subst (λ (n : ℕ). IsCut c.args.children.now c.args.chunk n) (sym c.saturating_sub.ensures)
    (cut_before _ _ _ c.count_below-below.ensures c.requires.some c.requires.rise (sym c.is_at.ensures ∙ c.if-is_at.false))
