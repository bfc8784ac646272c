use Rattle.std.proofs.Common.{◌≡◌, ◌-◌, ◌≤◌, length, take, IsTrue}
use Rattle.doc_stream.specs.Sources.{asked_of}
use Rattle.doc_stream.specs.Steps.{Moves, Takes}
use Rattle.doc_stream.specs.Unasked.{IsShort}
use Rattle.doc_stream.proofs.reader.Reader.fill.Given as goal

abbrev pub invariant-loop-filled : goal.invariant-loop-filled
invariant-loop-filled g l = record {
  count : l.filled ≤ length l.out;
  moved : Moves (asked_of l.source) l.initial.self l.self l.filled l.filled;
  taken : IsTrue g.V.View.tells → Takes (asked_of l.source) (g.V.View.content l.initial.view) l.initial.self l.self (take l.filled l.out);
  content : IsTrue g.V.View.tells → g.V.View.content l.view ≡ g.V.View.content l.initial.view;
  untroubled : g.V.View.faults l.view ≡ g.V.View.faults l.initial.view;
  short : IsShort l.initial.self → l.view ≡ l.initial.view;
}

abbrev pub decreases-loop-filled : goal.decreases-loop-filled
decreases-loop-filled g l = length l.out - l.filled
