-- The first document whose place compares equal is the document at that place.
use Rattle.std.proofs.Common.{◌≡◌, ℕ, List, sym}
use Rattle.std.specs.FinMap as finite
use Rattle.forest_model.specs.Documents.{Map, key_at, doc_at}
use Rattle.forest_model.specs.Key.{key_cmp}

pub found_first : (documents : Map) (store : ℕ) (key : List ℕ) → finite.find key_cmp (key_at store key) (finite.entries documents) ≡ doc_at documents store key
found_first documents store key = sym (finite.get-entries documents (key_at store key))
