use Rattle.std.proofs.Common.{◌∙◌, ap, inr, ℕ}
use Rattle.forest_model.specs.declared.refusal.Refusal.TheVariants as Refusal
use Rattle.btree_cow.specs.Shelf.{Shelf}
use Rattle.btree_cow.proofs.Walking.{no_node}
use Rattle.btree_cow.proofs.walk.node_at.Goals as goal

pub returns-in_default-clause-reason : goal.returns-in_default-clause-reason
returns-in_default-clause-reason g c =
    inr (
      ap (λ (file : ℕ). Refusal.Damaged file c.args.at) (c.file.ensures ∙ ap (λ (s : Shelf). s.file) c.in_ok-page.ensures.kept),
      λ told. no_node (g.P.Pages.shelf c.args.pages.now) c.args.at c.page.new.out (c.in_ok-page.ensures.given told) c.in_default.ensures.cases,
    )
