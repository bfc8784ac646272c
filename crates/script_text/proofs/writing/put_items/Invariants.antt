use Rattle.std.proofs.Common.{◌≡◌, ◌++◌, ◌∷◌, take, codes}
use Rattle.std.specs.List.{flat_map}
use Rattle.script_text.specs.Words.{spaced}
use Rattle.script_text.specs.Grammar.{item_words}
use Rattle.script_text.proofs.writing.put_items.Given as goal

abbrev pub invariant-loop-item : goal.invariant-loop-item
invariant-loop-item l = l.out ≡ l.fn.out ++ spaced (codes "batch" ∷ flat_map item_words (take l.item-index l.items))
