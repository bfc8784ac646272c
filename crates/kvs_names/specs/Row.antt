-- What a row in place means.
use Rattle.forest_model.specs.Stored.{StoreRow}
use Rattle.kvs_names.specs.declared.row.Row.{Row}

abbrev pub row_of : Row → StoreRow
row_of r = record { id = r.id; name = r.name.items; seq = r.seq; documents = r.documents }
