-- What records make of stores and documents.
use Rattle.std.specs.Prelude.{ℕ, ◌==◌, List, [], ◌∷◌, ◌++◌, if◌then◌else◌}
use Rattle.std.specs.FinMap as finite
use Rattle.forest_model.specs.Documents.{Map, key_at, doc_of, without_store}
use Rattle.forest_model.specs.Stores.{with_seq, new_store, without}
use Rattle.forest_model.specs.declared.state.Store.{Store}
use Rattle.forest_model.specs.declared.stored.Rec.{Rec}

abbrev pub Tables : Type 0
Tables = List Store × Map

-- a key set or deleted draws its store's number; a store made stands behind the others; one removed takes its documents along
abbrev pub after_record : Tables → Rec → Tables
after_record t r =
    if r.kind == 1 then (with_seq t.0 r.store r.seq, finite.insert t.1 (key_at r.store r.key) (doc_of r.seq r.meta r.body))
    else (if r.kind == 2 then (with_seq t.0 r.store r.seq, finite.remove t.1 (key_at r.store r.key))
    else (if r.kind == 3 then (t.0 ++ new_store r.store r.key ∷ [], t.1)
    else (without t.0 r.store, without_store t.1 r.store)))

abbrev pub after_records : Tables → List (ℕ × Rec) → Tables
after_records t [] = t
after_records t (r ∷ records) = after_records (after_record t r.1) records
