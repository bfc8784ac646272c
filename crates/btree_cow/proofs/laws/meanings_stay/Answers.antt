use Rattle.btree_cow.specs.Meanings.{meaning_lies_below}
use Rattle.btree_cow.proofs.Stored.{stored_still}
use Rattle.btree_cow.proofs.laws.meanings_stay.Goals as goal

pub returns-clause-still : goal.returns-clause-still
returns-clause-still c = stored_still

pub returns-clause-within : goal.returns-clause-within
returns-clause-within c = λ file at content stored is. meaning_lies_below file content at stored is
