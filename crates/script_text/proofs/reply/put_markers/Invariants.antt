use Rattle.std.proofs.Common.{◌≡◌, ◌++◌, ◌∷◌, take, map, codes}
use Rattle.std.specs.Fmt.{decimal}
use Rattle.script_text.specs.Words.{spaced}
use Rattle.script_text.proofs.reply.put_markers.Given as goal

abbrev pub invariant-loop-number : goal.invariant-loop-number
invariant-loop-number l = l.out ≡ l.fn.out ++ spaced (codes "markers" ∷ map decimal (take l.number-index l.numbers))
