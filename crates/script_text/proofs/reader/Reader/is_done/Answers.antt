use Rattle.std.proofs.Common.{◌≡◌, List, ℕ, subst}
use Rattle.script_text.specs.Reading.{none_left}
use Rattle.script_text.proofs.Splitting.{done_is}
use Rattle.script_text.proofs.reader.Reader.is_done.Goals as goal

pub returns : goal.returns
returns c = subst (λ (ws : List (List ℕ)). c.is_none.result ≡ none_left ws) c.self.view_is (done_is c.self.inside.left c.is_none.result c.is_none.ensures)
