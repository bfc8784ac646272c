-- The stores of a header.
use Rattle.std.specs.Prelude.{ℕ, List}
use Rattle.forest_model.specs.declared.stored.StoreAt.{StoreAt}

pub record StoreRow : Type 0 where
  pub id : ℕ
  pub name : List ℕ
  pub seq : ℕ
  pub documents : ℕ

abbrev pub row_of : StoreAt → StoreRow
row_of s = record { id = s.id; name = s.name.items; seq = s.seq; documents = s.documents }
