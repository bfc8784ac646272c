use Rattle.std.proofs.Common.{◌≡◌, ◌++◌, ◌∷◌, length, take, codes}
use Rattle.std.specs.List.{flat_map}
use Rattle.std.specs.Fmt.{decimal}
use Rattle.script_text.specs.Words.{spaced}
use Rattle.script_text.specs.Replies.{row_words}
use Rattle.script_text.proofs.reply.put_rows.Given as goal

abbrev pub invariant-loop-row : goal.invariant-loop-row
invariant-loop-row l = l.out ≡ l.fn.out ++ spaced (codes "list" ∷ decimal (length l.rows) ∷ flat_map row_words (take l.row-index l.rows))
