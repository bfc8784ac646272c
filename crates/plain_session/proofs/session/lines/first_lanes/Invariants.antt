-- So many lanes stand before their first line.
use Rattle.std.proofs.Common.{◌≡◌}
use Rattle.std.specs.List.{AllByRecursion}
use Rattle.std.specs.Prelude.{vec_len}
use Rattle.plain_session.proofs.Lanes.{IsFirst}
use Rattle.plain_session.proofs.session.lines.first_lanes.Given as goal

abbrev pub invariant-loop : goal.invariant-loop
invariant-loop l = record {
  len : vec_len l.lanes ≡ l.counter;
  first : AllByRecursion IsFirst l.lanes.items;
}
