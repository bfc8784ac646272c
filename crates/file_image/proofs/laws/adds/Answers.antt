use Rattle.file_image.proofs.Changed.{add, add_to}
use Rattle.file_image.proofs.laws.adds.Goals as goal

pub returns-clause-file : goal.returns-clause-file
returns-clause-file c = add_to c.scanned_stays.ensures c.headers_stay.ensures.fall c.headers_stay.ensures.stay

pub returns-clause-image : goal.returns-clause-image
returns-clause-image c = add c.scanned_stays.ensures c.headers_stay.ensures.fall c.headers_stay.ensures.stay
