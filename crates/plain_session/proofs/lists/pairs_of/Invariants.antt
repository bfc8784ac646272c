-- The pairs so far with those of the documents that are left are all.
use Rattle.std.proofs.Common.{◌≡◌, ◌++◌, map, filter}
use Rattle.std.specs.FinMap as finite
use Rattle.forest_model.specs.Documents.{is_of}
use Rattle.plain_session.proofs.lists.pairs_of.Given as goal

abbrev pub invariant-loop-place : goal.invariant-loop-place
invariant-loop-place l =
    l.pairs.items ++ map (λ e. (e.1.seq, e.0.key)) (filter (is_of l.store) l.place-iterator)
    ≡ map (λ e. (e.1.seq, e.0.key)) (filter (is_of l.store) (finite.entries l.documents))
