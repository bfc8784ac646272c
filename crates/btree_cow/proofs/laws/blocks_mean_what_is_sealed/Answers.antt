use Rattle.btree_cow.proofs.Stored.{stored_of_sealed, sealed_of_stored}
use Rattle.btree_cow.proofs.laws.blocks_mean_what_is_sealed.Goals as goal

pub returns-clause-stored : goal.returns-clause-stored
returns-clause-stored c = stored_of_sealed c.found_where_sealed.ensures.found c.payload_has_one_page.ensures.one

pub returns-clause-sealed : goal.returns-clause-sealed
returns-clause-sealed c = sealed_of_stored c.found_where_sealed.ensures.sealed c.payload_has_one_page.ensures.page
