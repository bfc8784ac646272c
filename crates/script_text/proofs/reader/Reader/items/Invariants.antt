use Rattle.std.proofs.Common.{◌≡◌, ◌-◌}
use Rattle.script_text.specs.Reading.{items_at}
use Rattle.script_text.proofs.Loops.{with_items, IsBegun}
use Rattle.script_text.proofs.reader.Reader.items.Given as goal

abbrev pub invariant-loop : goal.invariant-loop
invariant-loop l = record {
  read : with_items l.items.items (items_at (1024 - l.counter) l.self) ≡ items_at 1024 l.fn.self;
  begun : IsBegun l.fn.self l.self;
}
