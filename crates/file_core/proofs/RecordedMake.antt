-- What records make of documents and of the stores' numbers, with one more behind them.
use Rattle.std.proofs.Common.{◌≡◌, ℕ, ◌+◌, ◌≤◌, ◌<◌, Bool, true, false, cond, List, [], ◌∷◌, ◌++◌, map, Some, refl, sym, ap, subst, ◌∙◌, arith}
use Rattle.std.specs.Prelude.{◌==◌, ◌&&◌, not, filter, IsTrue}
use Rattle.std.specs.List.{AllByRecursion}
use Rattle.std.specs.FinMap as finite
use Rattle.std.proofs.lemmas.Bool.{eqb-true, eqb-false, eq-eqb, ne_eqb, false≢true, true≢false}
use Rattle.std.proofs.lemmas.Option.{same_Some, none-some}
use Rattle.doc_stream.specs.Fold.{Tables, after_record, after_records}
use Rattle.file_image.specs.Commits.{draws_number, NumbersRise, AtLastNumber, AtNumbers, Make}
use Rattle.forest_model.specs.Key.{key_cmp}
use Rattle.forest_model.specs.Documents.{Map}
use Rattle.forest_model.specs.State.{EachLater}
use Rattle.forest_model.specs.Stored.{StoreRow}
use Rattle.forest_model.specs.Stores.{store_of, at_seq, with_seq, new_store, without}
use Rattle.forest_model.specs.declared.state.Store.{Store}
use Rattle.forest_model.specs.declared.stored.Rec.{Rec}
use Rattle.file_core.specs.Stands.{row_in}
use Rattle.file_core.proofs.StoreRows.{found_id}

-- a record with its address
abbrev pub Numbered : Type 0
Numbered = ℕ × Rec

-- records that draw a number of a store
abbrev draws_of : ℕ → Numbered → Bool
draws_of id r = draws_number r && (r.1.store == id)

-- a store's number rises from one record to a later one
abbrev Rises : Numbered → Numbered → Type 0
Rises a b = a.1.store ≡ b.1.store → a.1.seq < b.1.seq

-- ---- lists with one more behind

all_snoc : {A : Type 0} (P : A → Type 0) (xs : List A) (x : A) → AllByRecursion P xs → P x → AllByRecursion P (xs ++ x ∷ [])
all_snoc P [] x all here = (here, tt)
all_snoc P (y ∷ xs) x all here = (all.0, all_snoc P xs x all.1 here)

all_as : {A : Type 0} (P Q : A → Type 0) → ((x : A) → P x → Q x) → (xs : List A) → AllByRecursion P xs → AllByRecursion Q xs
all_as P Q step [] all = tt
all_as P Q step (x ∷ xs) all = (step x all.0, all_as P Q step xs all.1)

later_snoc : {A : Type 0} (R : A → A → Type 0) (xs : List A) (x : A) → EachLater R xs → AllByRecursion (λ a. R a x) xs → EachLater R (xs ++ x ∷ [])
later_snoc R [] x each all = (tt, tt)
later_snoc R (y ∷ xs) x each all = (all_snoc (R y) xs x each.0 all.0, later_snoc R xs x each.1 all.1)

kept_snoc : {A : Type 0} (p : A → Bool) (xs : List A) (x : A) → p x ≡ true → filter p (xs ++ x ∷ []) ≡ filter p xs ++ x ∷ []
kept_snoc p [] x is = ap (λ b. cond b (x ∷ []) []) is
kept_snoc p (y ∷ xs) x is = by (p y) (kept_snoc p xs x is) where
  by : (b : Bool) → filter p (xs ++ x ∷ []) ≡ filter p xs ++ x ∷ [] → cond b (y ∷ filter p (xs ++ x ∷ [])) (filter p (xs ++ x ∷ [])) ≡ cond b (y ∷ filter p xs) (filter p xs) ++ x ∷ []
  by true e = ap (λ ys. y ∷ ys) e
  by false e = e

left_snoc : {A : Type 0} (p : A → Bool) (xs : List A) (x : A) → p x ≡ false → filter p (xs ++ x ∷ []) ≡ filter p xs
left_snoc p [] x is = ap (λ b. cond b (x ∷ []) []) is
left_snoc p (y ∷ xs) x is = by (p y) (left_snoc p xs x is) where
  by : (b : Bool) → filter p (xs ++ x ∷ []) ≡ filter p xs → cond b (y ∷ filter p (xs ++ x ∷ [])) (filter p (xs ++ x ∷ [])) ≡ cond b (y ∷ filter p xs) (filter p xs)
  by true e = ap (λ ys. y ∷ ys) e
  by false e = e

pub after_more : (t : Tables) (xs ys : List Numbered) → after_records t (xs ++ ys) ≡ after_records (after_records t xs) ys
after_more t [] ys = refl
after_more t (x ∷ xs) ys = after_more (after_record t x.1) xs ys

-- ---- a store's last number

last_here : (row : StoreRow) (xs : List Numbered) (x : Numbered) → row.seq ≡ x.1.seq → AtLastNumber row (xs ++ x ∷ [])
last_here row [] x is = is
last_here row (y ∷ []) x is = is
last_here row (y ∷ z ∷ xs) x is = last_here row (z ∷ xs) x is

last_stays : (row other : StoreRow) → row.seq ≡ other.seq → (xs : List Numbered) → AtLastNumber row xs → AtLastNumber other xs
last_stays row other same [] last = tt
last_stays row other same (x ∷ []) last = sym same ∙ last
last_stays row other same (x ∷ y ∷ xs) last = last_stays row other same (y ∷ xs) last

last_behind : (row : StoreRow) (x : Numbered) (xs : List Numbered) → AtLastNumber row (x ∷ xs) → AtLastNumber row xs
last_behind row x [] last = tt
last_behind row x (y ∷ xs) last = last

-- a record of a store doesn't lie above this number
abbrev AtMost : ℕ → ℕ → Numbered → Type 0
AtMost id n r = IsTrue (draws_number r) → r.1.store ≡ id → r.1.seq ≤ n

abbrev FirstBelow : StoreRow → Numbered → List Numbered → Type 0
FirstBelow row x xs = AllByRecursion (Rises x) (filter draws_number xs) → AtLastNumber row (x ∷ filter (draws_of row.id) xs) → x.1.seq ≤ row.seq

first_below : (row : StoreRow) (x : Numbered) (xs : List Numbered) → x.1.store ≡ row.id → AllByRecursion (Rises x) (filter draws_number xs) → AllByRecursion (AtMost row.id row.seq) xs
    → AtLastNumber row (x ∷ filter (draws_of row.id) xs) → x.1.seq ≤ row.seq
first_below row x [] own rises most last = let same : row.seq ≡ x.1.seq = last in omega (arith, same)
first_below row x (y ∷ xs) own rises most last = by (draws_number y) refl (λ r l. first_below row x xs own r most.1 l) rises last where
  same : (b : Bool) → (y.1.store == row.id) ≡ b → IsTrue (draws_number y) → FirstBelow row x xs → AllByRecursion (Rises x) (y ∷ filter draws_number xs) → AtLastNumber row (x ∷ cond b (y ∷ filter (draws_of row.id) xs) (filter (draws_of row.id) xs)) → x.1.seq ≤ row.seq
  same true is draws later r l =
      let there : y.1.store ≡ row.id = eqb-true y.1.store row.id is in
      let below : x.1.seq < y.1.seq = r.0 (own ∙ sym there) in
      let least : y.1.seq ≤ row.seq = most.0 draws there in
      omega (arith, below, least)
  same false is draws later r l = later r.1 l

  by : (b : Bool) → draws_number y ≡ b → FirstBelow row x xs → AllByRecursion (Rises x) (cond b (y ∷ filter draws_number xs) (filter draws_number xs))
      → AtLastNumber row (x ∷ cond (b && (y.1.store == row.id)) (y ∷ filter (draws_of row.id) xs) (filter (draws_of row.id) xs)) → x.1.seq ≤ row.seq
  by true draws later r l = same (y.1.store == row.id) refl draws later r l
  by false draws later r l = later r l

abbrev AllBelow : StoreRow → List Numbered → Type 0
AllBelow row xs = NumbersRise xs → AtNumbers xs row → AllByRecursion (AtMost row.id row.seq) xs

all_below : (row : StoreRow) (xs : List Numbered) → NumbersRise xs → AtNumbers xs row → AllByRecursion (AtMost row.id row.seq) xs
all_below row [] rises last = tt
all_below row (x ∷ xs) rises last = by (draws_number x) refl (λ r l. all_below row xs r l) rises last where
  same : (b : Bool) → (x.1.store == row.id) ≡ b → AllBelow row xs → AllByRecursion (Rises x) (filter draws_number xs) × NumbersRise xs → AtLastNumber row (cond b (x ∷ filter (draws_of row.id) xs) (filter (draws_of row.id) xs))
      → AllByRecursion (AtMost row.id row.seq) (x ∷ xs)
  same true is later r l =
      let rest = later r.1 (last_behind row x (filter (draws_of row.id) xs) l) in
      ((λ draws own. first_below row x xs own r.0 rest l), rest)
  same false is later r l = ((λ draws own. absurd (true≢false (sym (eq-eqb x.1.store row.id own) ∙ is))), later r.1 l)

  by : (b : Bool) → draws_number x ≡ b → AllBelow row xs → EachLater Rises (cond b (x ∷ filter draws_number xs) (filter draws_number xs))
      → AtLastNumber row (cond (b && (x.1.store == row.id)) (x ∷ filter (draws_of row.id) xs) (filter (draws_of row.id) xs)) → AllByRecursion (AtMost row.id row.seq) (x ∷ xs)
  by true draws later r l = same (x.1.store == row.id) refl later r l
  by false draws later r l = ((λ wrong own. absurd (false≢true (sym draws ∙ wrong))), later r l)

all_rise : (id n : ℕ) (x : Numbered) → x.1.store ≡ id → n < x.1.seq → (xs : List Numbered) → AllByRecursion (AtMost id n) xs → AllByRecursion (λ (q : Numbered). Rises q x) (filter draws_number xs)
all_rise id n x own more [] most = tt
all_rise id n x own more (y ∷ xs) most = by (draws_number y) refl (all_rise id n x own more xs most.1) where
  by : (b : Bool) → draws_number y ≡ b → AllByRecursion (λ (q : Numbered). Rises q x) (filter draws_number xs) → AllByRecursion (λ (q : Numbered). Rises q x) (cond b (y ∷ filter draws_number xs) (filter draws_number xs))
  by true draws later =
      ((λ same. let least : y.1.seq ≤ n = most.0 draws (same ∙ own) in omega (arith, least, more)), later)
  by false draws later = later

-- a store that is still to be drawn has no record
none_drawn : (id : ℕ) (xs : List Numbered) → AllByRecursion (λ (r : Numbered). r.1.store < id) xs → filter (draws_of id) xs ≡ []
none_drawn id [] below = refl
none_drawn id (x ∷ xs) below = by (draws_number x) (x.1.store == id) (ne_eqb x.1.store id (λ same. let low : x.1.store < id = below.0 in absurd (omega (arith, low, same)))) (none_drawn id xs below.1) where
  by : (a b : Bool) → b ≡ false → filter (draws_of id) xs ≡ [] → cond (a && b) (x ∷ filter (draws_of id) xs) (filter (draws_of id) xs) ≡ []
  by true true wrong later = absurd (true≢false wrong)
  by true false is later = later
  by false b is later = later

-- ---- records with one more behind them

-- what a record makes of documents
abbrev pub MakesOf : Rec → Map → Map → Type 0
MakesOf r before after = (t : Tables) → t.1 ≡ before → (after_record t r).1 ≡ after

module _ (records : List Numbered) (x : Numbered) (m after : Map) where
  makes : (rows new : List StoreRow) (next later : ℕ) → Make finite.empty records rows next m → next ≤ later → x.1.store < later → NumbersRise (records ++ x ∷ []) → MakesOf x.1 m after
      → AllByRecursion (AtNumbers (records ++ x ∷ [])) new → Make finite.empty (records ++ x ∷ []) new later after
  makes rows new next later was more low rise made last = record {
    known = all_snoc (λ (r : Numbered). r.1.store < later) records x (all_as (λ (r : Numbered). r.1.store < next) (λ (r : Numbered). r.1.store < later) (λ r below. omega (arith, below, more)) records was.known) low;
    rise = rise;
    above = λ k d got. absurd (none-some d (sym (finite.get-empty key_cmp k) ∙ got));
    folded = sym (made (after_records ([], finite.empty) records) (sym was.folded)) ∙ ap (λ (t : Tables). t.1) (sym (after_more ([], finite.empty) records (x ∷ [])));
    last = last;
  }

  -- ---- a number is drawn

  module _ (draws : draws_number x ≡ true) where
    row_drawn : (s : Store) → AtNumbers records (row_in m s) → AtNumbers (records ++ x ∷ []) (row_in after (at_seq x.1.store x.1.seq s))
    row_drawn s last = by (s.id == x.1.store) refl where
      by : (b : Bool) → (s.id == x.1.store) ≡ b → AtNumbers (records ++ x ∷ []) (row_in after (cond b (record s { seq = x.1.seq }) s))
      by true is =
          let own : draws_of s.id x ≡ true = ap (λ b. b && (x.1.store == s.id)) draws ∙ eq-eqb x.1.store s.id (sym (eqb-true s.id x.1.store is)) in
          subst (AtLastNumber (row_in after (record s { seq = x.1.seq }))) (sym (kept_snoc (draws_of s.id) records x own)) (last_here (row_in after (record s { seq = x.1.seq })) (filter (draws_of s.id) records) x refl)
      by false is =
          let other : draws_of s.id x ≡ false = ap (λ b. b && (x.1.store == s.id)) draws ∙ ne_eqb x.1.store s.id (λ same. eqb-false s.id x.1.store is (sym same)) in
          subst (AtLastNumber (row_in after s)) (sym (left_snoc (draws_of s.id) records x other)) (last_stays (row_in m s) (row_in after s) refl (filter (draws_of s.id) records) last)

    rows_drawn : (stores : List Store) → AllByRecursion (AtNumbers records) (map (row_in m) stores) → AllByRecursion (AtNumbers (records ++ x ∷ [])) (map (row_in after) (with_seq stores x.1.store x.1.seq))
    rows_drawn [] all = tt
    rows_drawn (s ∷ stores) all = (row_drawn s all.0, rows_drawn stores all.1)

    its_row : (stores : List Store) (k : ℕ) (st : Store) → store_of stores k ≡ Some st → AllByRecursion (AtNumbers records) (map (row_in m) stores) → AtNumbers records (row_in m st)
    its_row [] k st found all = absurd (none-some st found)
    its_row (s ∷ stores) k st found all = by (s.id == k) found (λ f. its_row stores k st f all.1) where
      by : (b : Bool) → cond b (Some s) (store_of stores k) ≡ Some st → (store_of stores k ≡ Some st → AtNumbers records (row_in m st)) → AtNumbers records (row_in m st)
      by true f later = subst (λ (t : Store). AtNumbers records (row_in m t)) (same_Some s st f) all.0
      by false f later = later f

    pub drawn_makes : (stores : List Store) (next : ℕ) (st : Store) → store_of stores x.1.store ≡ Some st → st.seq < x.1.seq → x.1.store < next → MakesOf x.1 m after
        → Make finite.empty records (map (row_in m) stores) next m → Make finite.empty (records ++ x ∷ []) (map (row_in after) (with_seq stores x.1.store x.1.seq)) next after
    drawn_makes stores next st found more low made was =
        makes (map (row_in m) stores) (map (row_in after) (with_seq stores x.1.store x.1.seq)) next next was (omega arith) low
        (subst (EachLater Rises) (sym (kept_snoc draws_number records x draws))
        (later_snoc Rises (filter draws_number records) x was.rise
        (all_rise st.id st.seq x (sym (found_id stores x.1.store st found)) more records (all_below (row_in m st) records was.rise (its_row stores x.1.store st found was.last)))))
        made (rows_drawn stores was.last)

  -- ---- none is drawn

  module _ (draws : draws_number x ≡ false) where
    rise_stays : NumbersRise records → NumbersRise (records ++ x ∷ [])
    rise_stays rise = subst (EachLater Rises) (sym (left_snoc draws_number records x draws)) rise

    row_stays : (s : Store) → AtNumbers records (row_in m s) → AtNumbers (records ++ x ∷ []) (row_in after s)
    row_stays s last =
        subst (AtLastNumber (row_in after s)) (sym (left_snoc (draws_of s.id) records x (ap (λ b. b && (x.1.store == s.id)) draws)))
        (last_stays (row_in m s) (row_in after s) refl (filter (draws_of s.id) records) last)

    -- a store is made, with the next id
    rows_made : (stores : List Store) (next : ℕ) (name : List ℕ) → AllByRecursion (λ (r : Numbered). r.1.store < next) records → AllByRecursion (AtNumbers records) (map (row_in m) stores)
        → AllByRecursion (AtNumbers (records ++ x ∷ [])) (map (row_in after) (stores ++ new_store next name ∷ []))
    rows_made [] next name below all = (row_stays (new_store next name) (subst (AtLastNumber (row_in m (new_store next name))) (sym (none_drawn next records below)) tt), tt)
    rows_made (s ∷ stores) next name below all = (row_stays s all.0, rows_made stores next name below all.1)

    pub made_makes : (stores : List Store) (next : ℕ) (name : List ℕ) → x.1.store ≡ next → MakesOf x.1 m after
        → Make finite.empty records (map (row_in m) stores) next m → Make finite.empty (records ++ x ∷ []) (map (row_in after) (stores ++ new_store next name ∷ [])) (next + 1) after
    made_makes stores next name own made was =
        makes (map (row_in m) stores) (map (row_in after) (stores ++ new_store next name ∷ [])) next (next + 1) was (omega arith) (omega (arith, own)) (rise_stays was.rise) made (rows_made stores next name was.known was.last)

    -- a store goes
    rows_gone : (stores : List Store) (id : ℕ) → AllByRecursion (AtNumbers records) (map (row_in m) stores) → AllByRecursion (AtNumbers (records ++ x ∷ [])) (map (row_in after) (without stores id))
    rows_gone [] id all = tt
    rows_gone (s ∷ stores) id all = by (s.id == id) (rows_gone stores id all.1) where
      by : (b : Bool) → AllByRecursion (AtNumbers (records ++ x ∷ [])) (map (row_in after) (without stores id)) → AllByRecursion (AtNumbers (records ++ x ∷ [])) (map (row_in after) (cond (not b) (s ∷ without stores id) (without stores id)))
      by true later = later
      by false later = (row_stays s all.0, later)

    pub gone_makes : (stores : List Store) (next id : ℕ) → x.1.store < next → MakesOf x.1 m after
        → Make finite.empty records (map (row_in m) stores) next m → Make finite.empty (records ++ x ∷ []) (map (row_in after) (without stores id)) next after
    gone_makes stores next id low made was =
        makes (map (row_in m) stores) (map (row_in after) (without stores id)) next next was (omega arith) low (rise_stays was.rise) made (rows_gone stores id was.last)
