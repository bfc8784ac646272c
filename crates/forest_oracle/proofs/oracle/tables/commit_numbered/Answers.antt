use Rattle.std.proofs.Common.{◌∙◌, arith}
use Rattle.std.proofs.lemmas.Grind.{common_steps}
use Rattle.forest_oracle.proofs.Commits.{number_found}
use Rattle.forest_oracle.proofs.oracle.tables.commit_numbered.Goals as goal

pub returns : goal.returns
returns c =
    let h = c.find_numbered.ensures ∙ number_found c.args.number c.args.earlier.now in
    grind (arith, common_steps, h)
