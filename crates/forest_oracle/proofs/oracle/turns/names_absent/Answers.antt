use Rattle.std.proofs.Common.{◌∙◌}
use Rattle.forest_model.specs.Stores.{seq_of}
use Rattle.forest_oracle.proofs.AtTurn.{absent_is}
use Rattle.forest_oracle.proofs.oracle.turns.names_absent.Goals as goal

pub returns : goal.returns
returns c = c.misses_one.ensures ∙ absent_is c.args.state.now.documents c.args.at.store c.args.items.now (seq_of c.args.state.now.stores c.args.at.store)
