-- Commit 0, which has one store and no documents.
use Rattle.std.proofs.Common.{◌≡◌, ℕ, List, [], ◌∷◌, length, Some, refl, sym, ap, ◌∙◌, arith}
use Rattle.std.specs.Prelude.{count_by, sum_by}
use Rattle.std.specs.FinMap as finite
use Rattle.std.proofs.lemmas.Option.{none-some}
use Rattle.forest_model.specs.Key.{key_cmp}
use Rattle.forest_model.specs.Documents.{count_of, is_of}
use Rattle.forest_model.specs.State.{IsCommit, first_commit, no_documents}
use Rattle.forest_model.specs.declared.documents.DocKey.{DocKey}
use Rattle.forest_model.specs.declared.documents.Doc.{Doc}
use Rattle.file_image.specs.Commits.{live_of, live_bytes}

nothing : {A : Type 0} (xs : List A) → length xs ≡ 0 → xs ≡ []
nothing [] e = refl
nothing (x ∷ xs) e = absurd (omega (arith, e))

no_entries : finite.entries no_documents ≡ []
no_entries = nothing _ (sym (finite.len-entries no_documents) ∙ finite.len-empty key_cmp Doc)

pub none_counted : (store : ℕ) → 0 ≡ count_of no_documents store
none_counted store = sym (ap (count_by (is_of store)) no_entries)

pub none_live : 0 ≡ live_bytes no_documents
unfolding live_bytes
none_live = sym (ap (sum_by live_of) no_entries)

-- a document that isn't there
not_there : {P : Type 0} (k : DocKey) (d : Doc) → finite.get no_documents k ≡ Some d → P
not_there k d there = absurd (none-some d (sym (finite.get-empty key_cmp k) ∙ there))

pub is_commit : IsCommit first_commit
is_commit = record {
  stores_apart = (tt, tt);
  at_most = omega arith;
  default = refl;
  numbers = λ k d there. not_there k d there;
  apart = λ k l d e there other store number. not_there k d there;
}
