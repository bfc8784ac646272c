-- The rows so far with those of the documents that are left are all.
use Rattle.std.proofs.Common.{◌≡◌, ◌++◌, ◌&&◌, map, filter}
use Rattle.std.specs.FinMap as finite
use Rattle.forest_model.specs.Documents.{is_of}
use Rattle.forest_model.specs.Session.{row_of, is_within}
use Rattle.plain_session.proofs.lists.rows_from.Given as goal

abbrev pub invariant-loop-place : goal.invariant-loop-place
invariant-loop-place l =
    l.rows.items ++ map row_of (filter (λ e. is_of l.store e && is_within l.up l.from e) l.place-iterator)
    ≡ map row_of (filter (λ e. is_of l.store e && is_within l.up l.from e) (finite.entries l.documents))
