use Rattle.std.proofs.Common.{take, ◌++◌, ◌∙◌, arith, refl}
use Rattle.play_run.proofs.Counts.{faults_from}
use Rattle.play_run.proofs.Taking.{stops_within, byte_taken, all_taken}
use Rattle.play_run.proofs.player.Player.take_bytes.Goals as goal

pub loop-byte-preserved : goal.loop-byte-preserved
loop-byte-preserved g c = record {
  somewhere = c.in_default.ensures.somewhere;
  few = omega (arith, c.in_default.ensures.count, c.loop-byte.invariant.few);
  host = c.in_default.ensures.untroubled.0 ∙ c.loop-byte.invariant.host;
  view = c.in_default.ensures.untroubled.1 ∙ c.loop-byte.invariant.view;
  aside = λ tells other apart. c.in_default.ensures.aside tells other apart ∙ c.loop-byte.invariant.aside tells other apart;
  taken = λ base taken has.
      byte_taken _ base _ taken c.args.bytes.now _ _ c.loop-byte.byte-index _ _ (omega arith) refl
      (c.in_default.ensures.taken base (taken ++ take c.loop-byte.byte-index c.args.bytes.now) (c.loop-byte.invariant.taken base taken has));
}

pub returns-in-Err-clause-stops : goal.returns-in-Err-clause-stops
returns-in-Err-clause-stops g c = λ base taken has.
    stops_within _ _ base _ taken c.args.bytes.now c.loop-byte.byte-index _ _ (omega arith) refl
    (c.in-Err.ensures.stops base (taken ++ take c.loop-byte.byte-index c.args.bytes.now) (c.loop-byte.invariant.taken base taken has))

pub returns-in-Err-clause-aside : goal.returns-in-Err-clause-aside
returns-in-Err-clause-aside g c = λ tells other apart. c.in-Err.ensures.aside tells other apart ∙ c.loop-byte.invariant.aside tells other apart

pub returns-in-Err-clause-faults : goal.returns-in-Err-clause-faults
returns-in-Err-clause-faults g c = faults_from c.in-Err.why _ _ _ _ _ c.loop-byte.invariant.host c.loop-byte.invariant.view c.in-Err.ensures.faults

pub returns-clause-taken : goal.returns-clause-taken
returns-clause-taken g c = λ base taken has. all_taken _ base _ taken c.args.bytes.now _ _ c.loop-byte.byte-index _ (omega arith) (c.loop-byte.invariant.taken base taken has)
