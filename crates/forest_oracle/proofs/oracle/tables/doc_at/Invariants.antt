use Rattle.std.proofs.Common.{◌≡◌}
use Rattle.std.specs.FinMap as finite
use Rattle.forest_model.specs.Documents.{doc_at, key_at}
use Rattle.forest_model.specs.Key.{key_cmp}
use Rattle.forest_oracle.proofs.oracle.tables.doc_at.Given as goal

-- what is found behind the places that were passed is the document
abbrev pub invariant-loop-place : goal.invariant-loop-place
invariant-loop-place l = finite.find key_cmp (key_at l.store l.key) l.place-iterator ≡ doc_at l.documents l.store l.key
