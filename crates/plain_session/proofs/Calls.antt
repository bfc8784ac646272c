-- A call that takes memory in the store takes it in the session.
use Rattle.std.proofs.Common.{refl}
use Rattle.std.specs.Prelude.{IsTrue}
use Rattle.forest_model.specs.declared.call.Call.{Call}
use Rattle.forest_model.specs.declared.call.Call.TheVariants.{SnapLatest, SnapAt}
use Rattle.forest_model.specs.declared.state.State.{State}
use Rattle.forest_oracle.specs.Memory.{takes_memory}
use Rattle.plain_session.specs.Memory.{call_takes_memory}

pub at_least : (s : State) (call : Call) → IsTrue (takes_memory s call) → IsTrue (call_takes_memory s call)
at_least s SnapLatest takes = refl
at_least s (SnapAt at seq) takes = refl
at_least s call takes = takes
