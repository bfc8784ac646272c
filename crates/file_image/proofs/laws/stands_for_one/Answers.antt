use Rattle.file_image.proofs.OneDurable.{stands_once}
use Rattle.file_image.proofs.laws.stands_for_one.Goals as goal

pub returns : goal.returns
returns c image d e a b = stands_once c.scanned_is_one.ensures c.headers_are_one.ensures c.current_is_one.ensures image d e a b
