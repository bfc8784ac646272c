use Rattle.std.proofs.Common.{◌≡◌, ℕ, true, false, cond, List, [], ◌∷◌, refl}
use Rattle.std.specs.Prelude.{find, if◌then◌else◌, ◌==◌, Option, Some, None, is_some}
use Rattle.std.specs.Option.{option_map}
use Rattle.forest_model.specs.Stores.{from_number}
use Rattle.forest_model.specs.declared.state.Commit.{Commit}

-- the newest commit with a number is the first that a search finds
pub number_found : (number : ℕ) (cs : List Commit) → find (λ c. c.number == number) cs ≡ option_map (λ f. f.0) (from_number number cs)
number_found number [] = refl
number_found number (c ∷ older) =
    elim (c.number == number) as (λ b. cond b (Some c) (find (λ c. c.number == number) older) ≡ option_map (λ f. f.0) (if b then Some (c, older) else from_number number older)) [
      | true ↦ refl
      | false ↦ number_found number older
    ]

-- what was made of something was made of it
pub mapped_some : {A B : Type 0} (f : A → B) (o : Option A) (y : B) → option_map f o ≡ Some y → is_some o ≡ true
mapped_some f None y e = cc
mapped_some f (Some x) y e = refl
