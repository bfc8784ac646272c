use Rattle.std.proofs.Common.{◌≡◌, ◌==◌, false, take, All}
use Rattle.script_text.proofs.reader.first_word.Given as goal

abbrev pub invariant-loop-i : goal.invariant-loop-i
invariant-loop-i l = All (λ b. (b == 32) ≡ false) (take l.i l.text)
