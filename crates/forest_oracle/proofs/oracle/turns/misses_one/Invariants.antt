use Rattle.std.proofs.Common.{◌≡◌, [], take, drop}
use Rattle.forest_oracle.specs.AtTurn.{misses}
use Rattle.forest_oracle.proofs.oracle.turns.misses_one.Given as goal

-- the items that are left come to the same as all
abbrev pub invariant-loop-n : goal.invariant-loop-n
invariant-loop-n l = misses l.documents l.store (take l.n l.items) (drop l.n l.items) ≡ misses l.documents l.store [] l.items
