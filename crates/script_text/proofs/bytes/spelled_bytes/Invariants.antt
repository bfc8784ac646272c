use Rattle.std.proofs.Common.{◌≡◌, ℕ, ◌≤◌, length}
use Rattle.script_text.specs.Reading.{bytes_at}
use Rattle.script_text.proofs.Loops.{with_bytes}
use Rattle.script_text.proofs.bytes.spelled_bytes.Given as goal

abbrev pub invariant-loop-rest : goal.invariant-loop-rest
invariant-loop-rest l = (n : ℕ) × (length l.rest ≤ n) × (with_bytes l.bytes.items (bytes_at n l.rest) ≡ bytes_at (length l.word) l.word)

abbrev pub decreases-loop-rest : goal.decreases-loop-rest
decreases-loop-rest l = length l.rest
