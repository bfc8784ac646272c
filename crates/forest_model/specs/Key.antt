-- The order of documents, by store and then by key.
use Rattle.std.specs.Prelude.{ℕ, List, refl}
use Rattle.std.specs.Ordering.{nat_cmp, ordering_then}
use Rattle.std.specs.Cmp.Lexicographic.{slice_cmp}
use Rattle.std.specs.Coded.{Coded, code_by, coded×, coded_ℕ, coded_list}
use Rattle.std.specs.declared.cmp.Ordering.{Ordering}
use Rattle.forest_model.specs.declared.documents.DocKey.{DocKey}
use Rattle.forest_model.specs.declared.documents.Doc.{Doc}

-- by the store's id, and then by the bytes of the key
abbrev pub key_cmp : DocKey → DocKey → Ordering
key_cmp a b = ordering_then (nat_cmp a.store b.store) (slice_cmp nat_cmp a.key b.key)

-- a key as a pair, and a document as a triple
abbrev pub coded_key : Coded DocKey
coded_key =
    code_by (ℕ × List ℕ) (coded× coded_ℕ (coded_list coded_ℕ)) (λ k. (k.store, k.key)) (λ p. record { store = p.0; key = p.1 }) (λ _. refl)

abbrev pub coded_doc : Coded Doc
coded_doc =
    code_by (ℕ × (List ℕ × List ℕ)) (coded× coded_ℕ (coded× (coded_list coded_ℕ) (coded_list coded_ℕ)))
    (λ d. (d.seq, (d.meta, d.body))) (λ p. record { seq = p.0; meta = p.1.0; body = p.1.1 }) (λ _. refl)
