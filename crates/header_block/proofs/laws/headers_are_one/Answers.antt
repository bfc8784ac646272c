use Rattle.header_block.proofs.OneHeader.{one_list}
use Rattle.header_block.proofs.laws.headers_are_one.Goals as goal

pub returns : goal.returns
returns c revision file last last' older older' a b = one_list revision file last last' older older' a b
