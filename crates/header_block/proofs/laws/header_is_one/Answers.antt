use Rattle.header_block.proofs.OneHeader.{one_header}
use Rattle.header_block.proofs.laws.header_is_one.Goals as goal

pub returns : goal.returns
returns c at h g is is' same = one_header at h g is is' same
