use Rattle.std.proofs.Common.{◌≡◌, ◌⊎◌, ◌≤◌, ◌<◌, ℕ, List, [], length, IsTrue}
use Rattle.doc_stream.specs.Scans.{Scans, still}
use Rattle.doc_stream.specs.Shown.{Shows}
use Rattle.doc_stream.specs.Sources.{asked_of}
use Rattle.doc_stream.proofs.reading.scan.Given as goal

abbrev pub invariant-loop-reader : goal.invariant-loop-reader
invariant-loop-reader g l = record {
  ready : 1 ≤ length l.reader.bytes → (l.initial.reader.next < l.reader.next) × (l.reader.next ≤ l.to);
  later : l.initial.reader.next ≤ l.reader.next;
  shown : (l.reader ≡ l.initial.reader) ⊎ (IsTrue g.V.View.tells → (kind : ℕ) × (payload : List ℕ) × Shows l.source.revision (asked_of l.source).tail (g.V.View.content l.initial.view) l.initial.reader.next kind payload);
  scanned : IsTrue g.V.View.tells → Scans (asked_of l.source) (g.V.View.content l.initial.view) l.initial.reader l.reader l.records;
  content : IsTrue g.V.View.tells → g.V.View.content l.view ≡ g.V.View.content l.initial.view;
  untroubled : g.V.View.faults l.view ≡ g.V.View.faults l.initial.view;
  idle : l.to ≤ l.initial.reader.next → (l.reader ≡ l.initial.reader) × (l.records ≡ []) × (l.view ≡ l.initial.view);
}

abbrev pub decreases-loop-reader : goal.decreases-loop-reader
decreases-loop-reader g l = still l.to l.reader
