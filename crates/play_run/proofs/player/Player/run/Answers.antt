use Rattle.std.proofs.Common.{◌++◌, arith, length-append, ◌∙◌}
use Rattle.play_run.proofs.Counts.{faults_from}
use Rattle.play_run.proofs.player.Player.run.Goals as goal

pub script-preserved : goal.script-preserved
script-preserved g c = record {
  somewhere = c.in-Ok.ensures.somewhere;
  small = omega (arith, c.in-Ok.ensures.fed.0, c.in-Ok.ensures.fed.1, c.in-Ok.ensures.fed.2, c.script.invariant.small);
  some = omega (arith, c.in-Ok.ensures.fed.1);
  within = omega (arith, c.script.invariant.within);
  host = c.in-Ok.ensures.untroubled.0 ∙ c.script.invariant.host;
  view = c.in-Ok.ensures.untroubled.1 ∙ c.script.invariant.view;
  counts = omega (arith, c.script.invariant.counts, c.in-Ok.ensures.counts);
  aside = λ tells other apart. c.in-Ok.ensures.aside tells other apart ∙ c.script.invariant.aside tells other apart;
  taken = λ told base has.
      let before = c.script.invariant.taken told base has in
      let fed = c.in-Ok.ensures.taken told base before.0 _ before.1 before.3 in
      (before.0 ++ fed.more, fed.source, omega (arith, length-append before.0 fed.more, fed.long, before.2, c.in-Ok.ensures.fed.1), fed.has);
}

pub returns-in-Err-clause-ends : goal.returns-in-Err-clause-ends
returns-in-Err-clause-ends g c = λ told base has.
    let before = c.script.invariant.taken told base has in
    c.in-Err.ensures.ends told base before.0 _ before.1 before.2 before.3

pub returns-in-Err-clause-aside : goal.returns-in-Err-clause-aside
returns-in-Err-clause-aside g c = λ tells other apart. c.in-Err.ensures.aside tells other apart ∙ c.script.invariant.aside tells other apart

pub returns-in-Err-clause-faults : goal.returns-in-Err-clause-faults
returns-in-Err-clause-faults g c = faults_from c.in-Err.why _ _ _ _ _ c.script.invariant.host c.script.invariant.view c.in-Err.ensures.faults
