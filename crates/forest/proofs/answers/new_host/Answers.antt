use Rattle.std.proofs.Common.{sym, subst}
use Rattle.block_host.specs.Disk.{Image}
use Rattle.file_image.specs.Stands.{Stands}
use Rattle.forest_model.specs.State.{new_durable}
use Rattle.forest.proofs.Memory.{formatted_is_new}
use Rattle.forest.proofs.answers.new_host.Goals as goal

pub returns-clause-new : goal.returns-clause-new
returns-clause-new c = formatted_is_new _ c.in_ok-host.ensures.meta c.in_ok-host.ensures.file

pub returns-clause-stands : goal.returns-clause-stands
returns-clause-stands c = λ image left.
    subst (λ (i : Image). Stands i new_durable) (sym (c.in_ok-host.ensures.settled image left)) (c.new_store.ensures _ (formatted_is_new _ c.in_ok-host.ensures.meta c.in_ok-host.ensures.file))
