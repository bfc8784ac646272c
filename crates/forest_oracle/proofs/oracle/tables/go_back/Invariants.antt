use Rattle.std.proofs.Common.{◌≡◌, ◌∷◌, length}
use Rattle.forest_model.specs.Stores.{from_number}
use Rattle.forest_oracle.proofs.oracle.tables.go_back.Given as goal

abbrev pub invariant-loop-last : goal.invariant-loop-last
invariant-loop-last l = from_number l.number (l.last ∷ l.earlier) ≡ from_number l.number (l.fn.last ∷ l.fn.earlier)

abbrev pub decreases-loop-last : goal.decreases-loop-last
decreases-loop-last l = length l.earlier
