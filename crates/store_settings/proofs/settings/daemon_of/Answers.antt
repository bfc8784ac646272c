use Rattle.std.proofs.Common.{◌∙◌, false, codes}
use Rattle.toml.proofs.Views.{table_get}
use Rattle.toml.specs.View.{view, table_view}
use Rattle.toml.specs.Data.{get_member}
use Rattle.store_settings.specs.Settings.{truth_in}
use Rattle.store_settings.proofs.Keys.{at_none, at_some, truth_is}
use Rattle.store_settings.proofs.settings.daemon_of.Goals as goal

pub returns-in-Some : goal.returns-in-Some
returns-in-Some c =
    let found = table_get c.get.result (codes "daemon") c.args.table.now.entries c.get.ensures.value in
    (c.as_bool.ensures ∙ truth_is (view c.in-Some.value.now)) ∙ at_some false truth_in (view c.in-Some.value.now) (get_member (codes "daemon") (table_view c.args.table.now)) (rw c.in-Some.is at found)

pub returns-in-None : goal.returns-in-None
returns-in-None c =
    let found = table_get c.get.result (codes "daemon") c.args.table.now.entries c.get.ensures.value in
    at_none false truth_in (get_member (codes "daemon") (table_view c.args.table.now)) (rw c.in-None.is at found)
