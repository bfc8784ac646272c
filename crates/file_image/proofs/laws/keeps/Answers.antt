use Rattle.file_image.proofs.Changed.{keep, stays_by}
use Rattle.file_image.proofs.laws.keeps.Goals as goal

pub returns-clause-file : goal.returns-clause-file
returns-clause-file c = stays_by c.scanned_stays.ensures c.headers_stay.ensures.fall c.headers_stay.ensures.stay

pub returns-clause-image : goal.returns-clause-image
returns-clause-image c = keep c.scanned_stays.ensures c.headers_stay.ensures.fall c.headers_stay.ensures.stay
