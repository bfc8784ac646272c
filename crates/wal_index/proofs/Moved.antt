-- Loops that take all rows of two lists, from the last on or from the first.
use Rattle.std.proofs.Common.{◌≡◌, ℕ, zero, suc, ◌+◌, List, [], ◌∷◌, ◌++◌, length, take, drop, map, refl, sym, ap, ◌∙◌, arith}
use Rattle.std.specs.Prelude.{reverse}
use Rattle.std.specs.Global.{Box}
use Rattle.std.proofs.lemmas.List.{append_assoc, append-nil, map-append, reverse-append, reverse-reverse}
use Rattle.forest_model.specs.declared.documents.DocKey.{DocKey}
use Rattle.forest_model.specs.declared.stored.Entry.{Entry}
use Rattle.forest_model.specs.declared.stored.KeyEntry.{KeyEntry}
use Rattle.wal_index.specs.Index.{key_entry}
use Rattle.wal_index.specs.Merged.{AreRows, all_pairs}
use Rattle.wal_index.specs.Rows.{pair_of, pairs}

-- from the last on: those that are left, and then those that were moved
pub record Moving (start : List (DocKey × Entry)) (settled recent moved : List (Box KeyEntry)) : Type 0 where
  pub rows : AreRows settled recent
  pub split : start ≡ all_pairs settled recent ++ reverse (pairs moved)

-- pairs of rows turned round
pairs_reverse : (rs : List (Box KeyEntry)) → pairs (reverse rs) ≡ reverse (pairs rs)
pairs_reverse [] = refl
pairs_reverse (r ∷ rs) =
    ap pairs (reverse-append (r ∷ []) rs)
    ∙ map-append pair_of (reverse rs) (r ∷ [])
    ∙ ap (λ es. es ++ pair_of r ∷ []) (pairs_reverse rs)
    ∙ sym (reverse-append (pair_of r ∷ []) (pairs rs))

-- what was moved, turned round
pub turned_pairs : (moved turned : List (Box KeyEntry)) → turned ≡ reverse moved → pairs turned ≡ reverse (pairs moved)
turned_pairs moved turned is = ap pairs is ∙ pairs_reverse moved

turned_more : (moved behind : List (Box KeyEntry)) → reverse (pairs (moved ++ reverse behind)) ≡ pairs behind ++ reverse (pairs moved)
turned_more moved behind =
    ap reverse (map-append pair_of moved (reverse behind))
    ∙ reverse-append (pairs moved) (pairs (reverse behind))
    ∙ ap (λ es. reverse es ++ reverse (pairs moved)) (pairs_reverse behind)
    ∙ ap (λ es. es ++ reverse (pairs moved)) (reverse-reverse (pairs behind))

turned_behind : (moved behind : List (Box KeyEntry)) (last : Box KeyEntry) → reverse (pairs ((moved ++ reverse behind) ++ last ∷ [])) ≡ pairs (last ∷ behind) ++ reverse (pairs moved)
turned_behind moved behind last =
    ap reverse (map-append pair_of (moved ++ reverse behind) (last ∷ []))
    ∙ reverse-append (pairs (moved ++ reverse behind)) (pair_of last ∷ [])
    ∙ ap (λ es. pair_of last ∷ es) (turned_more moved behind)

pub moving_on : (start : List (DocKey × Entry)) (settled recent moved left left_recent behind : List (Box KeyEntry)) (last : Box KeyEntry) → Moving start settled recent moved → AreRows left left_recent
    → all_pairs settled recent ≡ all_pairs left left_recent ++ pairs (last ∷ behind) → Moving start left left_recent ((moved ++ reverse behind) ++ last ∷ [])
moving_on start settled recent moved left left_recent behind last moving rows most = record {
  rows = rows;
  split =
      moving.split
      ∙ ap (λ es. es ++ reverse (pairs moved)) most
      ∙ append_assoc (all_pairs left left_recent) (pairs (last ∷ behind)) (reverse (pairs moved))
      ∙ ap (λ es. all_pairs left left_recent ++ es) (sym (turned_behind moved behind last));
}

pub moving_end : (start : List (DocKey × Entry)) (settled recent moved : List (Box KeyEntry)) → Moving start settled recent moved → recent ≡ [] → start ≡ reverse (pairs (moved ++ reverse settled))
moving_end start settled recent moved moving none = moving.split ∙ ap (λ rs. all_pairs settled rs ++ reverse (pairs moved)) none ∙ sym (turned_more moved settled)

pub no_rows : (rs : List (Box KeyEntry)) → length rs ≡ 0 → rs ≡ []
no_rows [] h = refl
no_rows (r ∷ rs) h = absurd (omega (arith, h))

pub none_left : (settled recent : List (Box KeyEntry)) → length settled + length recent ≡ 0 → all_pairs settled recent ≡ []
none_left settled recent none =
    ap (λ rs. all_pairs rs recent) (no_rows settled (omega (arith, none))) ∙ ap (all_pairs []) (no_rows recent (omega (arith, none)))

-- ---- the rows from a place on, moved one by one

module _ {A : Type 0} where
  front_taken : (k : ℕ) (xs front : List A) (r : A) → take (suc k) xs ≡ front ++ r ∷ [] → length front ≡ k → front ≡ take k xs
  front_taken k [] [] r is len = cc
  front_taken k [] (f ∷ front) r is len = cc
  front_taken zero (x ∷ xs) [] r is len = refl
  front_taken zero (x ∷ xs) (f ∷ front) r is len = absurd (omega (arith, len))
  front_taken (suc k) (x ∷ xs) [] r is len = absurd (omega (arith, len))
  front_taken (suc k) (x ∷ xs) (f ∷ front) r is len =
      let rest : take (suc k) xs ≡ front ++ r ∷ [] = cc in
      let same : x ≡ f = cc in
      ap (λ ys. f ∷ ys) (front_taken k xs front r rest (omega (arith, len))) ∙ ap (λ y. y ∷ take k xs) (sym same)

  last_dropped : (k : ℕ) (xs front : List A) (r : A) → take (suc k) xs ≡ front ++ r ∷ [] → length front ≡ k → drop k xs ≡ r ∷ drop (suc k) xs
  last_dropped k [] [] r is len = cc
  last_dropped k [] (f ∷ front) r is len = cc
  last_dropped zero (x ∷ xs) [] r is len = let same : x ≡ r = cc in ap (λ y. y ∷ xs) same
  last_dropped zero (x ∷ xs) (f ∷ front) r is len = absurd (omega (arith, len))
  last_dropped (suc k) (x ∷ xs) [] r is len = absurd (omega (arith, len))
  last_dropped (suc k) (x ∷ xs) (f ∷ front) r is len =
      let rest : take (suc k) xs ≡ front ++ r ∷ [] = cc in
      last_dropped k xs front r rest (omega (arith, len))

  pub kept_more : (k m : ℕ) (start items front : List A) (r : A) → items ≡ take m start → items ≡ front ++ r ∷ [] → m ≡ k + 1 → length front ≡ k → front ≡ take k start
  kept_more k m start items front r kept is m_is len =
      let more : suc k ≡ m = omega (arith, m_is) in
      front_taken k start front r (ap (λ n. take n start) more ∙ sym kept ∙ is) len

  pub moved_more : (k m : ℕ) (start items front before moved more : List A) (r : A) → items ≡ take m start → items ≡ front ++ r ∷ [] → m ≡ k + 1 → length front ≡ k
      → moved ≡ before ++ reverse (drop m start) → more ≡ moved ++ r ∷ [] → more ≡ before ++ reverse (drop k start)
  moved_more k m start items front before moved more r kept is m_is len moved_is more_is =
      let next : suc k ≡ m = omega (arith, m_is) in
      let rest : drop k start ≡ r ∷ drop m start = last_dropped k start front r (ap (λ n. take n start) next ∙ sym kept ∙ is) len ∙ ap (λ n. r ∷ drop n start) next in
      more_is
      ∙ ap (λ xs. xs ++ r ∷ []) moved_is
      ∙ append_assoc before (reverse (drop m start)) (r ∷ [])
      ∙ ap (λ xs. before ++ xs) (sym (reverse-append (r ∷ []) (drop m start)) ∙ ap reverse (sym rest))

-- from the first on: those that were copied, and then those that are left
pub record Copying (start : List (DocKey × Entry)) (settled recent : List (Box KeyEntry)) (copies : List KeyEntry) : Type 0 where
  pub rows : AreRows settled recent
  pub split : copies ++ map key_entry (all_pairs settled recent) ≡ map key_entry start

pub copying_first : (settled recent : List (Box KeyEntry)) (copies : List KeyEntry) → AreRows settled recent → copies ≡ [] → Copying (all_pairs settled recent) settled recent copies
copying_first settled recent copies rows none = record { rows = rows; split = ap (λ cs. cs ++ map key_entry (all_pairs settled recent)) none }

pub copying_on : (start : List (DocKey × Entry)) (settled recent left left_recent : List (Box KeyEntry)) (copies more : List KeyEntry) (r : Box KeyEntry) (copy : KeyEntry) → Copying start settled recent copies → AreRows left left_recent
    → all_pairs settled recent ≡ pair_of r ∷ all_pairs left left_recent → copy ≡ r.value → more ≡ copies ++ copy ∷ [] → Copying start left left_recent more
copying_on start settled recent left left_recent copies more r copy copying rows head copy_is is = record {
  rows = rows;
  split =
      ap (λ cs. cs ++ map key_entry (all_pairs left left_recent)) is
      ∙ append_assoc copies (copy ∷ []) (map key_entry (all_pairs left left_recent))
      ∙ ap (λ (v : KeyEntry). copies ++ v ∷ map key_entry (all_pairs left left_recent)) copy_is
      ∙ ap (λ es. copies ++ map key_entry es) (sym head)
      ∙ copying.split;
}

pub copying_end : (start : List (DocKey × Entry)) (settled recent : List (Box KeyEntry)) (copies : List KeyEntry) → Copying start settled recent copies → length settled + length recent ≡ 0 → copies ≡ map key_entry start
copying_end start settled recent copies copying none =
    sym (append-nil copies) ∙ ap (λ es. copies ++ map key_entry es) (sym (none_left settled recent none)) ∙ copying.split

-- copies make the same entries
pub copied_pairs : (rows : List (Box KeyEntry)) (es : List (DocKey × Entry)) → map (λ r. r.value) rows ≡ map key_entry es → pairs rows ≡ es
copied_pairs rows es same = sym (each rows) ∙ ap (map pair_again) same ∙ all es
  where
    pair_again : KeyEntry → DocKey × Entry
    pair_again v = (record { store = v.store; key = v.key }, v.entry)

    each : (rs : List (Box KeyEntry)) → map pair_again (map (λ r. r.value) rs) ≡ pairs rs
    each [] = refl
    each (r ∷ rs) = ap (λ xs. pair_of r ∷ xs) (each rs)

    all : (xs : List (DocKey × Entry)) → map pair_again (map key_entry xs) ≡ xs
    all [] = refl
    all (x ∷ xs) = ap (λ ys. x ∷ ys) (all xs)
