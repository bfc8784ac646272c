use Rattle.std.proofs.Common.{◌≡◌, ◌++◌, map, drop}
use Rattle.forest_model.specs.State.{retained}
use Rattle.forest_oracle.proofs.oracle.reads.numbers_of.Given as goal

-- the numbers so far with those of the commits that are left are all
abbrev pub invariant-loop-commit : goal.invariant-loop-commit
invariant-loop-commit l = l.numbers.items ++ map (λ c. c.number) (drop l.commit-index l.state.earlier) ≡ map (λ c. c.number) (retained l.state)
