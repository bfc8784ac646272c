use Rattle.std.proofs.Common.{◌≡◌, ◌++◌, drop}
use Rattle.wal_index.specs.Numbers.{marks}
use Rattle.wal_index.proofs.copies.numbers_of.Given as goal

-- the copies so far with the numbers that are left are all
abbrev pub invariant-loop-number : goal.invariant-loop-number
invariant-loop-number l = marks l.copies.items ++ marks (drop l.number-index l.numbers) ≡ marks l.numbers
