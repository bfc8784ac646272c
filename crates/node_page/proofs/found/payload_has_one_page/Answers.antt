use Rattle.node_page.proofs.OnePage.{one_page, page_is}
use Rattle.node_page.proofs.found.payload_has_one_page.Goals as goal

pub returns-clause-one : goal.returns-clause-one
returns-clause-one c = one_page

pub returns-clause-page : goal.returns-clause-page
returns-clause-page c = page_is
