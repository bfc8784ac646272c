-- A list has rows exactly where some are asked for and a document is within its bound.
use Rattle.std.proofs.Common.{◌≡◌, ℕ, zero, suc, ◌<◌, Bool, true, false, cond, List, [], ◌∷◌, length, map, filter, take, refl, sym, ap, ◌∙◌, arith}
use Rattle.std.specs.Prelude.{◌&&◌, ◌||◌, reverse, IsTrue}
use Rattle.std.specs.List.{list_any}
use Rattle.std.specs.FinMap as finite
use Rattle.std.specs.FinMap.Entries.{by_order}
use Rattle.std.specs.Cmp.{nat_cmp_total}
use Rattle.std.specs.Ordering.{nat_cmp}
use Rattle.std.specs.declared.cmp.Ordering.{Ordering}
use Rattle.std.specs.declared.cmp.Ordering.TheVariants.{Less, Equal, Greater}
use Rattle.std.proofs.lemmas.Bool.{true≢false}
use Rattle.std.proofs.lemmas.List.{length-map, length-reverse}
use Rattle.std.proofs.lemmas.Map.Lookups.{exact_unsigned}
use Rattle.forest_model.specs.Documents.{Map, Entry, is_of}
use Rattle.forest_model.specs.Session.{turned, row_of, is_within, is_numbered_within, rows_by_key, rows_by_seq, numbered}
use Rattle.forest_model.specs.declared.line.Row.{Row}
use Rattle.plain_session.specs.Memory.{has_rows}
use Rattle.plain_session.proofs.Numbers.{Pairs, filled_is}

-- ---- what passes a test

passing : {A : Type 0} (p : A → Bool) (xs : List A) → list_any p xs ≡ true → 0 < length (filter p xs)
passing p [] e = absurd (true≢false (sym e))
passing p (x ∷ xs) e = by (p x) (passing p xs) e
  where
    by : (b : Bool) → (list_any p xs ≡ true → 0 < length (filter p xs)) → (b || list_any p xs) ≡ true → 0 < length (cond b (x ∷ filter p xs) (filter p xs))
    by true later f = omega arith
    by false later f = later f

none_passing : {A : Type 0} (p : A → Bool) (xs : List A) → list_any p xs ≡ false → filter p xs ≡ []
none_passing p [] e = refl
none_passing p (x ∷ xs) e = by (p x) (none_passing p xs) e
  where
    by : (b : Bool) → (list_any p xs ≡ false → filter p xs ≡ []) → (b || list_any p xs) ≡ false → cond b (x ∷ filter p xs) (filter p xs) ≡ []
    by true later f = absurd (true≢false f)
    by false later f = later f

-- ---- what is shown of rows

taken : (count : ℕ) (rows : List Row) → (count ≡ 0 → ⊥) → 0 < length rows → IsTrue (has_rows (take count rows))
taken zero rows some full = absurd (some refl)
taken (suc count) [] some full = absurd (omega arith)
taken (suc count) (row ∷ rows) some full = refl

none_taken : (count : ℕ) (rows : List Row) → rows ≡ [] → take count rows ≡ []
none_taken zero rows none = refl
none_taken (suc count) [] none = refl
none_taken (suc count) (row ∷ rows) none = absurd (let e = ap length none in omega (arith, e))

zero_taken : (count : ℕ) (rows : List Row) → count ≡ 0 → take count rows ≡ []
zero_taken count rows none = ap (λ n. take n rows) none

turned_too : (up : Bool) (rows : List Row) → 0 < length rows → 0 < length (turned up rows)
turned_too true rows full = full
turned_too false rows full = omega (arith, length-reverse rows, full)

none_turned : (up : Bool) (rows : List Row) → rows ≡ [] → turned up rows ≡ []
none_turned true rows none = none
none_turned false rows none = ap reverse none

shown : {A : Type 0} (f : A → Row) (p : A → Bool) (xs : List A) (up : Bool) (count : ℕ) → (count ≡ 0 → ⊥) → list_any p xs ≡ true
    → IsTrue (has_rows (take count (turned up (map f (filter p xs)))))
shown f p xs up count some any =
    taken count (turned up (map f (filter p xs))) some (turned_too up (map f (filter p xs)) (omega (arith, length-map (filter p xs) f, passing p xs any)))

none_shown : {A : Type 0} (f : A → Row) (p : A → Bool) (xs : List A) (up : Bool) (count : ℕ) → list_any p xs ≡ false → take count (turned up (map f (filter p xs))) ≡ []
none_shown f p xs up count none =
    none_taken count (turned up (map f (filter p xs))) (none_turned up (map f (filter p xs)) (ap (map f) (none_passing p xs none)))

-- ---- by key

pub key_rows : (documents : Map) (store : ℕ) (up : Bool) (from : List ℕ) (count : ℕ) → (count ≡ 0 → ⊥)
    → list_any (λ e. is_of store e && is_within up from e) (finite.entries documents) ≡ true → IsTrue (has_rows (rows_by_key documents store up from count))
key_rows documents store up from count some any = shown row_of (λ e. is_of store e && is_within up from e) (finite.entries documents) up count some any

pub no_key_rows : (documents : Map) (store : ℕ) (up : Bool) (from : List ℕ) (count : ℕ)
    → list_any (λ e. is_of store e && is_within up from e) (finite.entries documents) ≡ false → rows_by_key documents store up from count ≡ []
no_key_rows documents store up from count none = none_shown row_of (λ e. is_of store e && is_within up from e) (finite.entries documents) up count none

pub zero_key_rows : (documents : Map) (store : ℕ) (up : Bool) (from : List ℕ) (count : ℕ) → count ≡ 0 → rows_by_key documents store up from count ≡ []
zero_key_rows documents store up from count none = zero_taken count _ none

-- ---- by number

twice : (a b : Bool) → (a || b) ≡ (a || (a || b))
twice true b = refl
twice false b = refl

exchanged : (a b c : Bool) → (a || (b || c)) ≡ (b || (a || c))
exchanged true true c = refl
exchanged true false c = refl
exchanged false true c = refl
exchanged false false c = refl

-- whether one of the numbers passes, once an entry is put in its place
any_put : (q : ℕ → Bool) (k : ℕ) (v : List ℕ) (es : Pairs) → list_any (λ (e : ℕ × List ℕ). q e.0) (finite.put nat_cmp k v es) ≡ (q k || list_any (λ (e : ℕ × List ℕ). q e.0) es)
any_put q k v [] = refl
any_put q k v (e ∷ es) = by (nat_cmp k e.0) refl (any_put q k v es)
  where
    by : (r : Ordering) → nat_cmp k e.0 ≡ r → list_any (λ (e : ℕ × List ℕ). q e.0) (finite.put nat_cmp k v es) ≡ (q k || list_any (λ (e : ℕ × List ℕ). q e.0) es)
        → list_any (λ (e : ℕ × List ℕ). q e.0) (by_order r ((k, v) ∷ e ∷ es) ((e.0, v) ∷ es) (e ∷ finite.put nat_cmp k v es)) ≡ (q k || (q e.0 || list_any (λ (e : ℕ × List ℕ). q e.0) es))
    by Less is later = refl
    by Equal is later =
        twice (q e.0) (list_any (λ (e : ℕ × List ℕ). q e.0) es) ∙ ap (λ n. q n || (q e.0 || list_any (λ (e : ℕ × List ℕ). q e.0) es)) (sym (exact_unsigned k e.0 is))
    by Greater is later = ap (λ b. q e.0 || b) later ∙ exchanged (q e.0) (q k) (list_any (λ (e : ℕ × List ℕ). q e.0) es)

any_numbered : (q : ℕ → Bool) (es : Pairs) → list_any (λ (e : ℕ × List ℕ). q e.0) (finite.entries (finite.from_entries {R = nat_cmp} es)) ≡ list_any (λ (e : ℕ × List ℕ). q e.0) es
any_numbered q [] = ap (λ (xs : Pairs). list_any (λ (e : ℕ × List ℕ). q e.0) xs) (sym (filled_is []))
any_numbered q (e ∷ es) =
    ap (λ (xs : Pairs). list_any (λ (e : ℕ × List ℕ). q e.0) xs) (finite.entries-insert nat_cmp_total (finite.from_entries es) e.0 e.1)
    ∙ any_put q e.0 e.1 (finite.entries (finite.from_entries {R = nat_cmp} es)) ∙ ap (λ b. q e.0 || b) (any_numbered q es)

abbrev pair_of : Entry → ℕ × List ℕ
pair_of e = (e.1.seq, e.0.key)

any_pair : (q : ℕ → Bool) (store : ℕ) (es : List Entry)
    → list_any (λ (e : ℕ × List ℕ). q e.0) (map pair_of (filter (is_of store) es)) ≡ list_any (λ (e : Entry). is_of store e && q e.1.seq) es
any_pair q store [] = refl
any_pair q store (e ∷ es) = by (is_of store e) (any_pair q store es)
  where
    by : (b : Bool) → list_any (λ (e : ℕ × List ℕ). q e.0) (map pair_of (filter (is_of store) es)) ≡ list_any (λ (e : Entry). is_of store e && q e.1.seq) es
        → list_any (λ (e : ℕ × List ℕ). q e.0) (map pair_of (cond b (e ∷ filter (is_of store) es) (filter (is_of store) es)))
        ≡ ((b && q e.1.seq) || list_any (λ (e : Entry). is_of store e && q e.1.seq) es)
    by true later = ap (λ b. q e.1.seq || b) later
    by false later = later

any_seq : (documents : Map) (store : ℕ) (up : Bool) (from : ℕ)
    → list_any (λ (e : ℕ × List ℕ). is_numbered_within up from e.0) (finite.entries (numbered documents store)) ≡ list_any (λ (e : Entry). is_of store e && is_numbered_within up from e.1.seq) (finite.entries documents)
any_seq documents store up from =
    any_numbered (is_numbered_within up from) (map pair_of (filter (is_of store) (finite.entries documents)))
    ∙ any_pair (is_numbered_within up from) store (finite.entries documents)

abbrev numbered_row : ℕ × List ℕ → Row
numbered_row e = record { key = e.1; seq = e.0 }

pub seq_rows : (documents : Map) (store : ℕ) (up : Bool) (from count : ℕ) → (count ≡ 0 → ⊥)
    → list_any (λ (e : Entry). is_of store e && is_numbered_within up from e.1.seq) (finite.entries documents) ≡ true → IsTrue (has_rows (rows_by_seq documents store up from count))
seq_rows documents store up from count some any =
    shown numbered_row (λ (e : ℕ × List ℕ). is_numbered_within up from e.0) (finite.entries (numbered documents store)) up count some (any_seq documents store up from ∙ any)

pub no_seq_rows : (documents : Map) (store : ℕ) (up : Bool) (from count : ℕ)
    → list_any (λ (e : Entry). is_of store e && is_numbered_within up from e.1.seq) (finite.entries documents) ≡ false → rows_by_seq documents store up from count ≡ []
no_seq_rows documents store up from count none =
    none_shown numbered_row (λ (e : ℕ × List ℕ). is_numbered_within up from e.0) (finite.entries (numbered documents store)) up count (any_seq documents store up from ∙ none)

pub zero_seq_rows : (documents : Map) (store : ℕ) (up : Bool) (from count : ℕ) → count ≡ 0 → rows_by_seq documents store up from count ≡ []
zero_seq_rows documents store up from count none = zero_taken count _ none
