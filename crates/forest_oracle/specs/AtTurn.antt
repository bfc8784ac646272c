-- Which keys of a store have a document at the turn of a batch's item, found without the documents that its items leave.
use Rattle.std.specs.Prelude.{ℕ, Bool, false, not, ◌&&◌, ◌||◌, List, [], ◌∷◌, ◌++◌, is_some, nat_eq}
use Rattle.std.specs.Cmp.Lexicographic.{pointwise}
use Rattle.forest_model.specs.Documents.{Map, doc_at}
use Rattle.forest_model.specs.declared.call.Item.{Item}
use Rattle.forest_model.specs.declared.call.Item.TheVariants.{Put, Del}

-- whether a key has a document behind items, by whether it had one before
abbrev pub lives_behind : List Item → List ℕ → Bool → Bool
lives_behind [] key before = before
lives_behind (Put k meta body ∷ items) key before = lives_behind items key (pointwise nat_eq k key || before)
lives_behind (Del k ∷ items) key before = lives_behind items key (not (pointwise nat_eq k key) && before)

-- whether, among items behind others, one deletes a key that has no document by then
abbrev pub misses : Map → ℕ → List Item → List Item → Bool
misses documents store front [] = false
misses documents store front (Put k meta body ∷ items) = misses documents store (front ++ Put k meta body ∷ []) items
misses documents store front (Del k ∷ items) =
    not (lives_behind front k (is_some (doc_at documents store k))) || misses documents store (front ++ Del k ∷ []) items
