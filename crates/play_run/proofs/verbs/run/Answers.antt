use Rattle.std.proofs.Common.{◌≡◌, List, length, false, subst}
use Rattle.forest_model.specs.declared.call.Item.{Item}
use Rattle.forest_model.specs.declared.line.Verb.{Verb}
use Rattle.forest_model.specs.declared.line.Verb.TheVariants as verbs
use Rattle.script_text.specs.Grammar.{IsCount, IsRightVerb}
use Rattle.play_run.proofs.verbs.run.Goals as goal

-- a line of a script has 1 to 1,024 items in its batch
counted : (verb : Verb) (items : List Item) → verb ≡ verbs.Batch items → IsRightVerb false verb → IsCount 1024 (length items)
unfolding IsRightVerb
counted verb items is right = (subst (IsRightVerb false) is right).0

pub batch-requires-clause-some : goal.batch-requires-clause-some
batch-requires-clause-some g c κs within = (counted c.args.verb.now c.in-Batch.items c.in-Batch.is c.requires.right).0

pub batch-requires-clause-few : goal.batch-requires-clause-few
batch-requires-clause-few g c κs within = (counted c.args.verb.now c.in-Batch.items c.in-Batch.is c.requires.right).1
