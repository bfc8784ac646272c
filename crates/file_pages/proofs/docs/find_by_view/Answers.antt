use Rattle.std.proofs.Common.{sym, subst}
use Rattle.btree_cow.specs.Shelf.{Shelf}
use Rattle.btree_cow.specs.Trees.{Tree}
use Rattle.file_pages.proofs.docs.find_by_view.Goals as goal

pub returns-clause-found : goal.returns-clause-found
returns-clause-found g c tells ok entries tree =
    c.find.ensures.found tells ok entries (subst (λ (s : Shelf). Tree ok s c.args.root entries) (sym c.new-docs.ensures.shelf) tree)

pub returns-clause-stands : goal.returns-clause-stands
returns-clause-stands g c tells ok entries tree =
    c.find.ensures.stands tells ok entries (subst (λ (s : Shelf). Tree ok s c.args.root entries) (sym c.new-docs.ensures.shelf) tree)
