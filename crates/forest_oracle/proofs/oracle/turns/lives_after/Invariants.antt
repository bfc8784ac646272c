use Rattle.std.proofs.Common.{◌≡◌, drop}
use Rattle.forest_oracle.specs.AtTurn.{lives_behind}
use Rattle.forest_oracle.proofs.oracle.turns.lives_after.Given as goal

-- the items that are left come to the same as all
abbrev pub invariant-loop-item : goal.invariant-loop-item
invariant-loop-item l = lives_behind (drop l.item-index l.front) l.key l.lives ≡ lives_behind l.front l.key l.before
