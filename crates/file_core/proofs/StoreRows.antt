-- The table in memory beside the stores of the state, and both once a store has drawn a number.
use Rattle.std.proofs.Common.{◌≡◌, ◌≢◌, ℕ, ◌≤◌, Bool, true, false, cond, List, [], ◌∷◌, map, Option, Some, None, refl, sym, ap, subst, ◌∙◌, arith}
use Rattle.std.specs.Prelude.{◌==◌}
use Rattle.std.specs.Option.{option_map}
use Rattle.std.proofs.lemmas.Bool.{eqb-true, eq-eqb, cond-true, true≢false}
use Rattle.std.proofs.lemmas.Option.{same_Some, none-some}
use Rattle.forest_model.specs.Documents.{Map, count_of}
use Rattle.forest_model.specs.Stores.{store_of, at_seq, with_seq}
use Rattle.forest_model.specs.State.{OfStore}
use Rattle.forest_model.specs.declared.state.Store.{Store}
use Rattle.kvs_names.specs.Table.{row_with_id, with_numbers}
use Rattle.file_core.specs.Stands.{row_in}

pub row_found : (m : Map) (stores : List Store) (id : ℕ) → row_with_id (map (row_in m) stores) id ≡ option_map (row_in m) (store_of stores id)
row_found m [] id = refl
row_found m (s ∷ stores) id = by (s.id == id) (row_found m stores id) where
  by : (b : Bool) → row_with_id (map (row_in m) stores) id ≡ option_map (row_in m) (store_of stores id)
      → cond b (Some (row_in m s)) (row_with_id (map (row_in m) stores) id) ≡ option_map (row_in m) (cond b (Some s) (store_of stores id))
  by true later = refl
  by false later = later

-- the table after a number was drawn
row_counted : (m m' : Map) (id seq n : ℕ) → n ≡ count_of m' id → ((j : ℕ) → id ≢ j → count_of m' j ≡ count_of m j) → (s : Store) → with_numbers id seq n (row_in m s) ≡ row_in m' (at_seq id seq s)
row_counted m m' id seq n own others s = by (s.id == id) refl where
  by : (b : Bool) → (s.id == id) ≡ b → cond b (record (row_in m s) { seq = seq; documents = n }) (row_in m s) ≡ row_in m' (cond b (record s { seq = seq }) s)
  by true t =
      ap (λ (d : ℕ). record { id = s.id; name = s.name; seq = seq; documents = d }) (own ∙ ap (count_of m') (sym (eqb-true s.id id t)))
  by false f =
      ap (λ (d : ℕ). record { id = s.id; name = s.name; seq = s.seq; documents = d }) (sym (others s.id (λ same. true≢false (sym (eq-eqb s.id id (sym same)) ∙ f))))

pub rows_counted : (m m' : Map) (id seq n : ℕ) → n ≡ count_of m' id → ((j : ℕ) → id ≢ j → count_of m' j ≡ count_of m j) → (stores : List Store)
    → map (with_numbers id seq n) (map (row_in m) stores) ≡ map (row_in m') (with_seq stores id seq)
rows_counted m m' id seq n own others [] = refl
rows_counted m m' id seq n own others (s ∷ stores) = λ i. row_counted m m' id seq n own others s i ∷ rows_counted m m' id seq n own others stores i

-- ---- the stores

pub found_id : (stores : List Store) (k : ℕ) (s : Store) → store_of stores k ≡ Some s → s.id ≡ k
found_id [] k s e = absurd (none-some s e)
found_id (t ∷ stores) k s e = by (t.id == k) refl e (found_id stores k s) where
  by : (b : Bool) → (t.id == k) ≡ b → cond b (Some t) (store_of stores k) ≡ Some s → (store_of stores k ≡ Some s → s.id ≡ k) → s.id ≡ k
  by true is f later = ap (λ (x : Store). x.id) (sym (same_Some t s f)) ∙ eqb-true t.id k is
  by false is f later = later f

pub id-at_seq : (id seq : ℕ) (s : Store) → (at_seq id seq s).id ≡ s.id
id-at_seq id seq s = by (s.id == id) where
  by : (b : Bool) → (cond b (record s { seq = seq }) s).id ≡ s.id
  by true = refl
  by false = refl

pub at_seq_own : (id seq : ℕ) (s : Store) → s.id ≡ id → at_seq id seq s ≡ record s { seq = seq }
at_seq_own id seq s e = cond-true (s.id == id) _ _ (eq-eqb s.id id e)

pub store_of-with_seq : (stores : List Store) (id seq k : ℕ) → store_of (with_seq stores id seq) k ≡ option_map (at_seq id seq) (store_of stores k)
store_of-with_seq [] id seq k = refl
store_of-with_seq (s ∷ stores) id seq k =
    ap (λ n. cond (n == k) (Some (at_seq id seq s)) (store_of (with_seq stores id seq) k)) (id-at_seq id seq s) ∙ by (s.id == k) (store_of-with_seq stores id seq k) where
      by : (b : Bool) → store_of (with_seq stores id seq) k ≡ option_map (at_seq id seq) (store_of stores k)
          → cond b (Some (at_seq id seq s)) (store_of (with_seq stores id seq) k) ≡ option_map (at_seq id seq) (cond b (Some s) (store_of stores k))
      by true e = refl
      by false e = e

-- a store that draws a number has come to it, and no store falls
pub own_raised : (stores : List Store) (id seq : ℕ) (st : Store) → store_of stores id ≡ Some st → OfStore (store_of (with_seq stores id seq) id) (λ s. seq ≤ s.seq)
own_raised stores id seq st found =
    subst (λ o. OfStore o (λ s. seq ≤ s.seq)) (sym (store_of-with_seq stores id seq id ∙ ap (option_map (at_seq id seq)) found ∙ ap Some (at_seq_own id seq st (found_id stores id st found)))) (omega arith)

pub each_raised : (stores : List Store) (id seq : ℕ) (st : Store) → store_of stores id ≡ Some st → st.seq ≤ seq → (k n : ℕ) → OfStore (store_of stores k) (λ s. n ≤ s.seq)
    → OfStore (store_of (with_seq stores id seq) k) (λ s. n ≤ s.seq)
each_raised stores id seq st found more k n h = subst (λ o. OfStore o (λ s. n ≤ s.seq)) (sym (store_of-with_seq stores id seq k)) (by (store_of stores k) refl h) where
  bears : (s : Store) → store_of stores k ≡ Some s → n ≤ s.seq → (b : Bool) → (s.id == id) ≡ b → n ≤ (cond b (record s { seq = seq }) s).seq
  bears s e h true t =
      let own : k ≡ id = sym (found_id stores k s e) ∙ eqb-true s.id id t in
      let at : st ≡ s = same_Some st s (sym found ∙ ap (store_of stores) (sym own) ∙ e) in
      let level : st.seq ≡ s.seq = ap (λ (x : Store). x.seq) at in
      omega arith
  bears s e h false t = h

  by : (o : Option Store) → store_of stores k ≡ o → OfStore o (λ s. n ≤ s.seq) → OfStore (option_map (at_seq id seq) o) (λ s. n ≤ s.seq)
  by None e h = h
  by (Some s) e h = bears s e h (s.id == id) refl
