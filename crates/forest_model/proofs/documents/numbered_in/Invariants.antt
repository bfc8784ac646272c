-- None of the entries so far is the one.
use Rattle.std.proofs.Common.{◌≡◌}
use Rattle.std.specs.Prelude.{find}
use Rattle.forest_model.specs.Documents.{is_numbered}
use Rattle.forest_model.proofs.documents.numbered_in.Given as goal

abbrev pub invariant-loop-key : goal.invariant-loop-key
invariant-loop-key l = find (is_numbered l.store l.seq) l.key-iterator ≡ find (is_numbered l.store l.seq) l.entries.entries
