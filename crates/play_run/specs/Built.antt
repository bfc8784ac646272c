-- The lines that are run, as a test.
use Rattle.std.specs.Prelude.{Bool, true, false}
use Rattle.forest_model.specs.declared.line.Line.{Line}
use Rattle.forest_model.specs.declared.line.Verb.{Verb}
use Rattle.forest_model.specs.declared.line.Verb.TheVariants.{UseStore, Remove, Set, Del, Batch, Get, BySeq, Commit, Info}

-- stores, documents and commits; the other lines of the grammar are bad lines so far
abbrev pub is_built_verb : Verb → Bool
is_built_verb (UseStore name read_only) = true
is_built_verb (Remove name) = true
is_built_verb (Set key meta body) = true
is_built_verb (Del key) = true
is_built_verb (Batch items) = true
is_built_verb (Get key) = true
is_built_verb (BySeq seq) = true
is_built_verb Commit = true
is_built_verb Info = true
is_built_verb verb = false

abbrev pub is_built : Line → Bool
is_built line = is_built_verb line.verb
