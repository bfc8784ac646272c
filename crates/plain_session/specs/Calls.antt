-- What a line asks of a lane.
use Rattle.std.specs.Prelude.{◌≡◌, Bool, true, false, Option, Some, None}
use Rattle.forest_model.specs.Session.{Lane, Copier, call_of}
use Rattle.forest_model.specs.declared.line.Verb.{Verb}
use Rattle.forest_model.specs.declared.line.Verb.TheVariants.{UseStore, Remove, Set, Del, Batch, Get, BySeq}
use Rattle.plain_session.specs.declared.asked.Asked.{Asked}
use Rattle.plain_session.specs.declared.asked.Asked.TheVariants.{OfFile, Aside}

-- a line on one store's documents
abbrev pub is_of_documents : Verb → Bool
is_of_documents (UseStore name read_only) = true
is_of_documents (Remove name) = true
is_of_documents (Set key meta body) = true
is_of_documents (Del key) = true
is_of_documents (Batch items) = true
is_of_documents (Get key) = true
is_of_documents (BySeq seq) = true
is_of_documents verb = false

-- what a line asks of a lane is the call that it makes, and else the line itself
abbrev pub Asks : Lane → Option Copier → Verb → Asked → Type 0
Asks lane copier verb (OfFile call) = call_of lane copier verb ≡ Some call
Asks lane copier verb (Aside same) = (call_of lane copier verb ≡ None) × (same ≡ verb)
