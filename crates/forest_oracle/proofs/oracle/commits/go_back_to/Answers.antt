use Rattle.forest_model.specs.Stores.{from_number}
use Rattle.forest_model.specs.State.{retained}
use Rattle.forest_oracle.proofs.Commits.{mapped_some}
use Rattle.forest_oracle.proofs.oracle.commits.go_back_to.Goals as goal

pub go_back-requires : goal.go_back-requires
go_back-requires c = mapped_some _ (from_number c.args.number (retained c.args.state.now)) _ c.requires.contents
