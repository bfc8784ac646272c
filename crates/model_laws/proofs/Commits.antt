-- The commits from a number on.
use Rattle.std.proofs.Common.{◌≡◌, ℕ, Bool, true, false, cond, List, [], ◌∷◌, ◌++◌, Some, refl, sym, ap, ◌∙◌}
use Rattle.std.specs.Bool.{◌==◌}
use Rattle.std.proofs.lemmas.Bool.{eqb-true}
use Rattle.std.proofs.lemmas.Option.{same_Some, none-some}
use Rattle.forest_model.specs.Stores.{from_number}
use Rattle.forest_model.specs.declared.state.Commit.{Commit}

-- the commits are some newer ones, the one with the number, and those behind it
pub record IsFrom (number : ℕ) (commits : List Commit) (found : Commit × List Commit) : Type 0 where
  pub newer : List Commit
  pub named : found.0.number ≡ number
  pub among : commits ≡ newer ++ found.0 ∷ found.1

pub from_number_is : (number : ℕ) (commits : List Commit) (found : Commit × List Commit) → from_number number commits ≡ Some found → IsFrom number commits found
from_number_is number [] found e = absurd (none-some found e)
from_number_is number (c ∷ older) found e = by (c.number == number) refl e (from_number_is number older found)
  where
    by : (b : Bool) → (c.number == number) ≡ b → cond b (Some (c, older)) (from_number number older) ≡ Some found
        → (from_number number older ≡ Some found → IsFrom number older found) → IsFrom number (c ∷ older) found
    by true t f later =
        let is = same_Some (c, older) found f in
        record { newer = []; named = ap (λ (x : Commit × List Commit). x.0.number) (sym is) ∙ eqb-true c.number number t; among = ap (λ (x : Commit × List Commit). x.0 ∷ x.1) is }
    by false t f later = let h = later f in record { newer = c ∷ h.newer; named = h.named; among = ap (λ cs. c ∷ cs) h.among }
