use Rattle.std.proofs.Common.{refl, sym}
use Rattle.forest_model.specs.State.{opened}
use Rattle.model_laws.specs.Laws.{OpenedIs}
use Rattle.model_laws.proofs.Same.{nothing_new_decides}
use Rattle.model_laws.proofs.openings.Goals as goal

opened_is : OpenedIs
opened_is last earlier d limits e = (
  λ i. record { commits = sym e i; next_commit = d.next_commit; next_store = d.next_store; revision = d.revision; generation = d.generation },
  (nothing_new_decides (opened last earlier d limits)).1 (refl, refl),
  refl,
)

pub returns : goal.returns
returns c = opened_is
