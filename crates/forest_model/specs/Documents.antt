-- Documents: what a finite map from store and key has, and what changes leave of it.
use Rattle.std.specs.Prelude.{ℕ, ◌+◌, Bool, ◌&&◌, not, ◌==◌, List, [], ◌∷◌, Option, Some, None, nat_eq, find, count_by, if◌then◌else◌}
use Rattle.std.specs.Cmp.Lexicographic.{pointwise}
use Rattle.std.specs.FinMap as finite
use Rattle.forest_model.specs.Key.{key_cmp}
use Rattle.forest_model.specs.declared.documents.DocKey.{DocKey}
use Rattle.forest_model.specs.declared.documents.Doc.{Doc}
use Rattle.forest_model.specs.declared.call.Item.{Item}
use Rattle.forest_model.specs.declared.call.Item.TheVariants.{Put, Del}

-- documents by store and key
abbrev pub Map : Type 0
Map = finite.FinMap key_cmp Doc

-- a document with where it stands
abbrev pub Entry : Type 0
Entry = DocKey × Doc

abbrev pub key_at : ℕ → List ℕ → DocKey
key_at store key = record { store = store; key = key }

abbrev pub doc_of : ℕ → List ℕ → List ℕ → Doc
doc_of seq meta body = record { seq = seq; meta = meta; body = body }

-- the document of a store's key
abbrev pub doc_at : Map → ℕ → List ℕ → Option Doc
doc_at documents store key = finite.get documents (key_at store key)

-- the document of a store with this sequence number
abbrev pub is_numbered : ℕ → ℕ → Entry → Bool
is_numbered store seq e = (e.0.store == store) && (e.1.seq == seq)

abbrev pub doc_numbered : Map → ℕ → ℕ → Option Entry
doc_numbered documents store seq = find (is_numbered store seq) (finite.entries documents)

-- how many documents a store has
abbrev pub is_of : ℕ → Entry → Bool
is_of store e = e.0.store == store

abbrev pub count_of : Map → ℕ → ℕ
count_of documents store = count_by (is_of store) (finite.entries documents)

-- the documents without those of a store
abbrev pub without_store : Map → ℕ → Map
without_store documents store = finite.retain_keys documents (λ k. not (k.store == store))

-- the sequence number and the documents after items in their order; none where a key to delete isn't there
abbrev pub after_items : ℕ → List Item → ℕ → Map → Option (ℕ × Map)
after_items store [] seq documents = Some (seq, documents)
after_items store (Put key meta body ∷ items) seq documents =
    after_items store items (seq + 1) (finite.insert documents (key_at store key) (doc_of (seq + 1) meta body))
after_items store (Del key ∷ items) seq documents =
    if finite.contains_key documents (key_at store key)
    then after_items store items (seq + 1) (finite.remove documents (key_at store key))
    else None

-- the same documents
abbrev pub is_same_key : DocKey → DocKey → Bool
is_same_key a b = (a.store == b.store) && pointwise nat_eq a.key b.key

abbrev pub is_same_doc : Doc → Doc → Bool
is_same_doc a b = (a.seq == b.seq) && pointwise nat_eq a.meta b.meta && pointwise nat_eq a.body b.body

abbrev pub is_same_entry : Entry → Entry → Bool
is_same_entry a b = is_same_key a.0 b.0 && is_same_doc a.1 b.1

abbrev pub is_same_map : Map → Map → Bool
is_same_map a b = pointwise is_same_entry (finite.entries a) (finite.entries b)
