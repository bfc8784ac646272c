-- The documents that are left come to the same as all.
use Rattle.std.proofs.Common.{◌≡◌, ◌&&◌}
use Rattle.std.specs.FinMap as finite
use Rattle.std.specs.List.{list_any}
use Rattle.forest_model.specs.Documents.{is_of}
use Rattle.forest_model.specs.Session.{is_within}
use Rattle.plain_session.proofs.lists.has_within.Given as goal

abbrev pub invariant-loop-place : goal.invariant-loop-place
invariant-loop-place l =
    list_any (λ e. is_of l.store e && is_within l.up l.from e) l.place-iterator ≡ list_any (λ e. is_of l.store e && is_within l.up l.from e) (finite.entries l.documents)
