-- What the table of stores has after a change of it.
use Rattle.std.proofs.Common.{◌≡◌, ◌≢◌, ℕ, ◌≤◌, ◌<◌, Bool, true, false, cond, not, List, [], ◌∷◌, ◌++◌, Option, Some, None, refl, sym, ap, subst, ◌∙◌, arith}
use Rattle.std.specs.Bool.{◌==◌}
use Rattle.std.specs.List.{AllByRecursion, find}
use Rattle.std.specs.Option.{option_map, option_map_or, is_none}
use Rattle.std.proofs.lemmas.Bool.{eqb-true, eq-eqb, ne_eqb, cond-true, cond-false, true≢false}
use Rattle.std.proofs.lemmas.Option.{same_Some, none-some}
use Rattle.forest_model.specs.Stores.{store_of, seq_of, at_seq, with_seq, without}
use Rattle.forest_model.specs.State.{EachLater, OfStore}
use Rattle.forest_model.specs.declared.state.Store.{Store}
use Rattle.model_laws.proofs.Lists.{all_weaker, found_passes, found_has}

-- ids rise, and names differ
abbrev pub Apart : Store → Store → Type 0
Apart a b = (a.id < b.id) × (a.name ≢ b.name)

-- a store at another number is the same store otherwise
pub id-at_seq : (id seq : ℕ) (s : Store) → (at_seq id seq s).id ≡ s.id
id-at_seq id seq s = by (s.id == id)
  where
    by : (b : Bool) → (cond b (record s { seq = seq }) s).id ≡ s.id
    by true = refl
    by false = refl

pub name-at_seq : (id seq : ℕ) (s : Store) → (at_seq id seq s).name ≡ s.name
name-at_seq id seq s = by (s.id == id)
  where
    by : (b : Bool) → (cond b (record s { seq = seq }) s).name ≡ s.name
    by true = refl
    by false = refl

pub at_seq_own : (id seq : ℕ) (s : Store) → s.id ≡ id → at_seq id seq s ≡ record s { seq = seq }
at_seq_own id seq s e = cond-true (s.id == id) _ _ (eq-eqb s.id id e)

pub apart-at_seq : (id seq : ℕ) (a b : Store) → Apart a b → Apart (at_seq id seq a) (at_seq id seq b)
apart-at_seq id seq a b h = (
  subst (λ n. n < (at_seq id seq b).id) (sym (id-at_seq id seq a)) (subst (λ n. a.id < n) (sym (id-at_seq id seq b)) h.0),
  λ e. h.1 (sym (name-at_seq id seq a) ∙ e ∙ name-at_seq id seq b),
)

-- the store of an id after a change
pub store_of-with_seq : (stores : List Store) (id seq k : ℕ) → store_of (with_seq stores id seq) k ≡ option_map (at_seq id seq) (store_of stores k)
store_of-with_seq [] id seq k = refl
store_of-with_seq (s ∷ stores) id seq k =
    ap (λ n. cond (n == k) (Some (at_seq id seq s)) (store_of (with_seq stores id seq) k)) (id-at_seq id seq s) ∙ by (s.id == k) (store_of-with_seq stores id seq k)
  where
    by : (b : Bool) → store_of (with_seq stores id seq) k ≡ option_map (at_seq id seq) (store_of stores k)
        → cond b (Some (at_seq id seq s)) (store_of (with_seq stores id seq) k) ≡ option_map (at_seq id seq) (cond b (Some s) (store_of stores k))
    by true e = refl
    by false e = e

pub gone-with_seq : (stores : List Store) (id seq k : ℕ) → is_none (store_of (with_seq stores id seq) k) ≡ is_none (store_of stores k)
gone-with_seq stores id seq k = ap is_none (store_of-with_seq stores id seq k) ∙ by (store_of stores k)
  where
    by : (o : Option Store) → is_none (option_map (at_seq id seq) o) ≡ is_none o
    by None = refl
    by (Some s) = refl

pub found_id : (stores : List Store) (k : ℕ) (s : Store) → store_of stores k ≡ Some s → s.id ≡ k
found_id stores k s e = eqb-true s.id k (found_passes (λ t. t.id == k) stores s e)

pub seq_at : (stores : List Store) (k : ℕ) (s : Store) → store_of stores k ≡ Some s → seq_of stores k ≡ s.seq
seq_at stores k s e = ap (λ (o : Option Store). option_map_or (λ t. t.seq) o 0) e

pub at_seq_other : (id seq : ℕ) (s : Store) → s.id ≢ id → at_seq id seq s ≡ s
at_seq_other id seq s n = cond-false (s.id == id) _ _ (ne_eqb s.id id n)

pub others-with_seq : (stores : List Store) (id seq k : ℕ) → k ≢ id → store_of (with_seq stores id seq) k ≡ store_of stores k
others-with_seq stores id seq k n = store_of-with_seq stores id seq k ∙ by (store_of stores k) refl
  where
    by : (o : Option Store) → store_of stores k ≡ o → option_map (at_seq id seq) o ≡ o
    by None e = refl
    by (Some s) e = ap Some (at_seq_other id seq s (λ same. n (sym (found_id stores k s e) ∙ same)))

-- the store of an id after a removal
pub gone-without : (stores : List Store) (id : ℕ) → store_of (without stores id) id ≡ None
gone-without [] id = refl
gone-without (s ∷ stores) id = by (s.id == id) refl (gone-without stores id)
  where
    by : (b : Bool) → (s.id == id) ≡ b → store_of (without stores id) id ≡ None → store_of (cond (not b) (s ∷ without stores id) (without stores id)) id ≡ None
    by true t later = later
    by false t later = cond-false (s.id == id) _ _ t ∙ later

pub others-without : (stores : List Store) (id k : ℕ) → k ≢ id → store_of (without stores id) k ≡ store_of stores k
others-without [] id k n = refl
others-without (s ∷ stores) id k n = by (s.id == id) refl (others-without stores id k n)
  where
    by : (b : Bool) → (s.id == id) ≡ b → store_of (without stores id) k ≡ store_of stores k
        → store_of (cond (not b) (s ∷ without stores id) (without stores id)) k ≡ cond (s.id == k) (Some s) (store_of stores k)
    by true t later = later ∙ sym (cond-false (s.id == k) _ _ (ne_eqb s.id k (λ e. n (sym e ∙ eqb-true s.id id t))))
    by false t later = ap (cond (s.id == k) (Some s)) later

-- what holds of a store holds after a change that it bears
pub of-with_seq : (P : Store → Type 0) (stores : List Store) (id seq k : ℕ) → ((s : Store) → store_of stores k ≡ Some s → P s → P (at_seq id seq s))
    → OfStore (store_of stores k) P → OfStore (store_of (with_seq stores id seq) k) P
of-with_seq P stores id seq k bears h = subst (λ o. OfStore o P) (sym (store_of-with_seq stores id seq k)) (by (store_of stores k) refl h)
  where
    by : (o : Option Store) → store_of stores k ≡ o → OfStore o P → OfStore (option_map (at_seq id seq) o) P
    by None e h = h
    by (Some s) e h = bears s e h

pub of-added : (P : Store → Type 0) (stores : List Store) (new : Store) (k : ℕ) → OfStore (store_of stores k) P → OfStore (store_of (stores ++ new ∷ []) k) P
of-added P [] new k h = absurd h
of-added P (s ∷ stores) new k h = by (s.id == k) h (of-added P stores new k)
  where
    by : (b : Bool) → OfStore (cond b (Some s) (store_of stores k)) P → (OfStore (store_of stores k) P → OfStore (store_of (stores ++ new ∷ []) k) P)
        → OfStore (cond b (Some s) (store_of (stores ++ new ∷ []) k)) P
    by true h later = h
    by false h later = later h

pub of-without : (P : Store → Type 0) (stores : List Store) (id k : ℕ) → k ≢ id → OfStore (store_of stores k) P → OfStore (store_of (without stores id) k) P
of-without P [] id k n h = h
of-without P (s ∷ stores) id k n h = by (s.id == id) refl (of-without P stores id k n)
  where
    here : (b : Bool) → OfStore (cond b (Some s) (store_of stores k)) P → (OfStore (store_of stores k) P → OfStore (store_of (without stores id) k) P)
        → OfStore (cond b (Some s) (store_of (without stores id) k)) P
    here true h later = h
    here false h later = later h

    by : (b : Bool) → (s.id == id) ≡ b → (OfStore (store_of stores k) P → OfStore (store_of (without stores id) k) P)
        → OfStore (store_of (cond (not b) (s ∷ without stores id) (without stores id)) k) P
    by true t later = later (subst (λ c. OfStore (cond c (Some s) (store_of stores k)) P) (ne_eqb s.id k (λ e. n (sym e ∙ eqb-true s.id id t))) h)
    by false t later = here (s.id == k) h later

-- the number of the changed store, and the numbers of all
pub seq_of-with_seq : (stores : List Store) (id seq : ℕ) → is_none (store_of stores id) ≡ false → seq_of (with_seq stores id seq) id ≡ seq
seq_of-with_seq stores id seq there =
    ap (λ (o : Option Store). option_map_or (λ t. t.seq) o 0) (store_of-with_seq stores id seq id) ∙ by (store_of stores id) refl there
  where
    by : (o : Option Store) → store_of stores id ≡ o → is_none o ≡ false → option_map_or (λ t. t.seq) (option_map (at_seq id seq) o) 0 ≡ seq
    by None e n = absurd (true≢false n)
    by (Some s) e n = ap (λ (t : Store). t.seq) (at_seq_own id seq s (found_id stores id s e))

pub raised : (stores : List Store) (id seq k n : ℕ) → seq_of stores id ≤ seq → OfStore (store_of stores k) (λ s. n ≤ s.seq) → OfStore (store_of (with_seq stores id seq) k) (λ s. n ≤ s.seq)
raised stores id seq k n le = of-with_seq (λ s. n ≤ s.seq) stores id seq k (λ s e h. bears s e h (s.id == id) refl)
  where
    bears : (s : Store) → store_of stores k ≡ Some s → n ≤ s.seq → (b : Bool) → (s.id == id) ≡ b → n ≤ (cond b (record s { seq = seq }) s).seq
    bears s e h true t =
        let own : k ≡ id = sym (found_id stores k s e) ∙ eqb-true s.id id t in
        let at : seq_of stores id ≡ s.seq = seq_at stores id s (ap (store_of stores) (sym own) ∙ e) in
        omega arith
    bears s e h false t = h

-- the last change of a store's number counts
pub with_seq_twice : (stores : List Store) (id m n : ℕ) → with_seq (with_seq stores id m) id n ≡ with_seq stores id n
with_seq_twice [] id m n = refl
with_seq_twice (s ∷ stores) id m n = λ i. one (s.id == id) refl i ∷ with_seq_twice stores id m n i
  where
    one : (b : Bool) → (s.id == id) ≡ b → at_seq id n (cond b (record s { seq = m }) s) ≡ at_seq id n s
    one true t = cond-true (s.id == id) _ _ t ∙ sym (cond-true (s.id == id) _ _ t)
    one false t = refl

-- a store that is found by any test is found by its id
pub found_by_id : (stores : List Store) (p : Store → Bool) (s : Store) → EachLater Apart stores → find p stores ≡ Some s → store_of stores s.id ≡ Some s
found_by_id [] p s a e = absurd (none-some s e)
found_by_id (t ∷ stores) p s a e = by (p t) e (found_by_id stores p s a.1)
  where
    by : (b : Bool) → cond b (Some t) (find p stores) ≡ Some s → (find p stores ≡ Some s → store_of stores s.id ≡ Some s)
        → cond (t.id == s.id) (Some t) (store_of stores s.id) ≡ Some s
    by true f later = cond-true (t.id == s.id) _ _ (eq-eqb t.id s.id (ap (λ (x : Store). x.id) (same_Some t s f))) ∙ f
    by false f later =
        let less : t.id < s.id = (found_has (Apart t) p stores s a.0 f).0 in
        ap (λ b. cond b (Some t) (store_of stores s.id)) (ne_eqb t.id s.id (λ e. omega arith)) ∙ later f

-- a store at its own number stays, and so does the table
absent-with_seq : (stores : List Store) (id seq : ℕ) → AllByRecursion (λ s. id < s.id) stores → with_seq stores id seq ≡ stores
absent-with_seq [] id seq a = refl
absent-with_seq (s ∷ stores) id seq a = λ i. at_seq_other id seq s (λ e. omega (arith, a.0, e)) i ∷ absent-with_seq stores id seq a.1 i

pub same-with_seq : (stores : List Store) (id : ℕ) → EachLater Apart stores → with_seq stores id (seq_of stores id) ≡ stores
same-with_seq [] id a = refl
same-with_seq (s ∷ stores) id a = by (s.id == id) refl (same-with_seq stores id a.1)
  where
    by : (b : Bool) → (s.id == id) ≡ b → with_seq stores id (seq_of stores id) ≡ stores
        → with_seq (s ∷ stores) id (option_map_or (λ t. t.seq) (cond b (Some s) (store_of stores id)) 0) ≡ s ∷ stores
    by true t later =
        let own : s.id ≡ id = eqb-true s.id id t in
        λ i. at_seq_own id s.seq s own i ∷ absent-with_seq stores id s.seq (all_weaker (Apart s) (λ x. id < x.id) (λ x w. subst (λ n. n < x.id) own w.0) stores a.0) i
    by false t later = λ i. cond-false (s.id == id) (record s { seq = seq_of stores id }) s t i ∷ later i
