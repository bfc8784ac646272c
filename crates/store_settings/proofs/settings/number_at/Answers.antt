use Rattle.std.proofs.Common.{◌∙◌}
use Rattle.toml.proofs.Views.{table_get}
use Rattle.store_settings.specs.Settings.{number_in}
use Rattle.store_settings.proofs.Keys.{at_none, at_some}
use Rattle.store_settings.proofs.settings.number_at.Goals as goal

pub returns-in-Some : goal.returns-in-Some
returns-in-Some c =
    let found = table_get c.get.result c.args.key.now c.args.table.now.entries c.get.ensures.value in
    c.number_in.ensures ∙ at_some c.args.default (number_in c.args.least c.args.most) _ _ (rw c.in-Some.is at found)

pub returns-in-None : goal.returns-in-None
returns-in-None c =
    let found = table_get c.get.result c.args.key.now c.args.table.now.entries c.get.ensures.value in
    at_none c.args.default (number_in c.args.least c.args.most) _ (rw c.in-None.is at found)
