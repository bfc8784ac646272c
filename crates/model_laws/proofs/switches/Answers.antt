use Rattle.std.proofs.Common.{refl, arith}
use Rattle.forest_model.specs.Step.{Outcome}
use Rattle.forest_model.specs.declared.call.Call.TheVariants.{Switch}
use Rattle.model_laws.specs.Commits.{SwitchKeeps, IsSwitched}
use Rattle.model_laws.proofs.Free.{answered_has}
use Rattle.model_laws.proofs.switches.Goals as goal

switch_keeps : SwitchKeeps
switch_keeps s file at ticket left h =
    answered_has (λ (o : Outcome). IsSwitched s o.1 o.0) s file (Switch at ticket left) h
    (λ free. record {
      answers = refl;
      commits = refl;
      stores = refl;
      documents = refl;
      numbers = (refl, refl, refl);
      file = (refl, refl, refl);
      idle = refl;
      kept = refl;
      open_block = λ h. omega (arith, h);
      place = refl;
    })

pub returns : goal.returns
returns c = switch_keeps
