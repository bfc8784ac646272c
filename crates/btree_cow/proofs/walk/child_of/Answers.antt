use Rattle.std.proofs.Common.{sym, ◌∙◌, ap, inr, ℕ}
use Rattle.forest_model.specs.declared.refusal.Refusal.TheVariants as Refusal
use Rattle.btree_cow.proofs.Walking.{high_choice}
use Rattle.btree_cow.proofs.walk.child_of.Goals as goal

pub returns-then-not-is_below-clause-reason : goal.returns-then-not-is_below-clause-reason
returns-then-not-is_below-clause-reason g c = λ entries node whole. (
  ap (λ (file : ℕ). Refusal.Damaged file c.args.here.at) c.file.ensures,
  inr (
    c.in-Some.choice.child,
    c.in-Some.choice.sibling,
    c.in-Some.ensures c.args.head.leaf entries node whole,
    high_choice c.in-Some.choice.child c.in-Some.choice.sibling c.args.here.at (sym c.is_below.ensures ∙ c.if-not-is_below.true),
  ),
)
