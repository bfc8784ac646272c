-- Why a call is refused: the causes of each in their order, of which the first that holds is answered.
use Rattle.std.specs.Prelude.{ℕ, not, ◌==◌, List, [], ◌∷◌, length, Option, is_none, nat_le}
use Rattle.forest_model.specs.Limits.{is_name, is_worn}
use Rattle.forest_model.specs.Step.{◌where_holds◌}
use Rattle.forest_model.specs.declared.refusal.Refusal.{Refusal}
use Rattle.forest_model.specs.declared.refusal.Refusal.TheVariants.{NameForm, NoStore, Worn, StoreCount}
use Rattle.kvs_names.specs.Table.{Table, row_with_id, row_named}

abbrev pub find_causes : Table → List ℕ → List (Option Refusal)
find_causes t name = (NameForm where_holds not (is_name name)) ∷ (NoStore where_holds is_none (row_named t.rows name)) ∷ []

abbrev pub create_causes : Table → List ℕ → List (Option Refusal)
create_causes t name =
    (NameForm where_holds not (is_name name)) ∷ (Worn where_holds is_worn t.next) ∷ (StoreCount where_holds nat_le 64 (length t.rows)) ∷ []

-- id 0 is that of `default`
abbrev pub remove_causes : Table → ℕ → List (Option Refusal)
remove_causes t id = (NameForm where_holds (id == 0)) ∷ (NoStore where_holds is_none (row_with_id t.rows id)) ∷ []
