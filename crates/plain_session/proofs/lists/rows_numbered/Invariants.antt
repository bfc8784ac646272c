-- The rows so far with those of the numbers that are left are all.
use Rattle.std.proofs.Common.{◌≡◌, ◌++◌, map, filter}
use Rattle.forest_model.specs.Session.{is_numbered_within}
use Rattle.plain_session.proofs.lists.rows_numbered.Given as goal

abbrev pub invariant-loop-seq : goal.invariant-loop-seq
invariant-loop-seq l =
    l.rows.items ++ map (λ e. record { key = e.1; seq = e.0 }) (filter (λ e. is_numbered_within l.up l.from e.0) l.seq-iterator)
    ≡ map (λ e. record { key = e.1; seq = e.0 }) (filter (λ e. is_numbered_within l.up l.from e.0) l.fn.ordered.entries)
