-- A value that is put for a chunk into rising entries.
use Rattle.std.proofs.Common.{◌≡◌, inl, inr, ℕ, zero, suc, ◌<◌, ◌≤◌, ◌+◌, ◌-◌, Bool, true, false, List, [], ◌∷◌, ◌++◌, length, take, drop, set, get_or, refl, sym, ap, ◌∙◌, subst, arith, true≢false}
use Rattle.std.specs.Prelude.{nat_lt, nat_le, insert, ◌==◌, if◌then◌else◌}
use Rattle.std.specs.List.{list_all, refill}
use Rattle.std.proofs.lemmas.Bool.{and_parts, and_from, ltb-true, lt-ltb, le-ltb, leb-true, eqb-true, eqb-false, eq-eqb, ne_eqb, cases_order}
use Rattle.std.proofs.lemmas.List.{get_or_at, take_at, length-set}
use Rattle.node_page.specs.Nodes.{Entry, rises}
use Rattle.btree_cow.specs.Changes.{with_entry}
use Rattle.btree_cow.specs.Growing.{is_at, IsCount, IsCut, IsChild}
use Rattle.btree_cow.proofs.Finds.{all_so}

-- below a chunk, at or above it, and above it
abbrev pub is_under : ℕ → Entry → Bool
is_under chunk e = nat_lt e.0 chunk

abbrev pub is_over : ℕ → Entry → Bool
is_over chunk e = nat_lt chunk e.0

abbrev pub is_from : ℕ → Entry → Bool
is_from chunk e = nat_le chunk e.0

-- ---- one step

pub with_more : (e : Entry) (l : List Entry) (chunk value : ℕ) → chunk < e.0 → with_entry (e ∷ l) chunk value ≡ (chunk, value) ∷ e ∷ l
with_more e l chunk value h =
    ap (λ (b : Bool). if b then (chunk, value) ∷ e ∷ l else (if e.0 == chunk then (chunk, value) ∷ l else e ∷ with_entry l chunk value)) (lt-ltb chunk e.0 h)

pub with_same : (e : Entry) (l : List Entry) (chunk value : ℕ) → e.0 ≡ chunk → with_entry (e ∷ l) chunk value ≡ (chunk, value) ∷ l
with_same e l chunk value h =
    ap (λ (b : Bool). if b then (chunk, value) ∷ e ∷ l else (if e.0 == chunk then (chunk, value) ∷ l else e ∷ with_entry l chunk value)) (le-ltb chunk e.0 (omega arith))
    ∙ ap (λ (b : Bool). if b then (chunk, value) ∷ l else e ∷ with_entry l chunk value) (eq-eqb e.0 chunk h)

pub with_less : (e : Entry) (l : List Entry) (chunk value : ℕ) → e.0 < chunk → with_entry (e ∷ l) chunk value ≡ e ∷ with_entry l chunk value
with_less e l chunk value h =
    ap (λ (b : Bool). if b then (chunk, value) ∷ e ∷ l else (if e.0 == chunk then (chunk, value) ∷ l else e ∷ with_entry l chunk value)) (le-ltb chunk e.0 (omega arith))
    ∙ ap (λ (b : Bool). if b then (chunk, value) ∷ l else e ∷ with_entry l chunk value) (ne_eqb e.0 chunk (λ same. omega arith))

-- ---- between entries below the chunk and entries above it

pub with_behind : (xs ys : List Entry) (chunk value : ℕ) → list_all (is_under chunk) xs ≡ true → with_entry (xs ++ ys) chunk value ≡ xs ++ with_entry ys chunk value
with_behind [] ys chunk value h = refl
with_behind (x ∷ xs) ys chunk value h =
    let parts = and_parts (is_under chunk x) (list_all (is_under chunk) xs) h in
    with_less x (xs ++ ys) chunk value (ltb-true x.0 chunk parts.0) ∙ ap (λ (l : List Entry). x ∷ l) (with_behind xs ys chunk value parts.1)

with_first : (ys : List Entry) (chunk value : ℕ) → list_all (is_over chunk) ys ≡ true → with_entry ys chunk value ≡ (chunk, value) ∷ ys
with_first [] chunk value h = refl
with_first (y ∷ ys) chunk value h = with_more y ys chunk value (ltb-true chunk y.0 (and_parts (is_over chunk y) (list_all (is_over chunk) ys) h).0)

pub with_ahead : (xs ys : List Entry) (chunk value : ℕ) → list_all (is_over chunk) ys ≡ true → with_entry (xs ++ ys) chunk value ≡ with_entry xs chunk value ++ ys
with_ahead [] ys chunk value h = with_first ys chunk value h
with_ahead (x ∷ xs) ys chunk value h = elim (cases_order x.0 chunk) [
  | inl same ↦ with_same x (xs ++ ys) chunk value same ∙ ap (λ (l : List Entry). l ++ ys) (sym (with_same x xs chunk value same))
  | inr other ↦ elim other [
    | inl less ↦ with_less x (xs ++ ys) chunk value less ∙ ap (λ (l : List Entry). x ∷ l) (with_ahead xs ys chunk value h) ∙ ap (λ (l : List Entry). l ++ ys) (sym (with_less x xs chunk value less))
    | inr more ↦ with_more x (xs ++ ys) chunk value more ∙ ap (λ (l : List Entry). l ++ ys) (sym (with_more x xs chunk value more))
  ]
]

pub with_within : (xs ys zs : List Entry) (chunk value : ℕ) → list_all (is_under chunk) xs ≡ true → list_all (is_over chunk) zs ≡ true → with_entry (xs ++ (ys ++ zs)) chunk value ≡ xs ++ (with_entry ys chunk value ++ zs)
with_within xs ys zs chunk value h k = with_behind xs (ys ++ zs) chunk value h ∙ ap (λ (l : List Entry). xs ++ l) (with_ahead ys zs chunk value k)

-- between the two an entry of its own
pub with_between : (xs zs : List Entry) (chunk value : ℕ) → list_all (is_under chunk) xs ≡ true → list_all (is_over chunk) zs ≡ true → with_entry (xs ++ zs) chunk value ≡ xs ++ (chunk, value) ∷ zs
with_between xs zs chunk value h k = with_within xs [] zs chunk value h k

-- ---- what stays so

pub with_all : (p : Entry → Bool) (xs : List Entry) (chunk value : ℕ) → p (chunk, value) ≡ true → list_all p xs ≡ true → list_all p (with_entry xs chunk value) ≡ true
with_all p [] chunk value here all = and_from (p (chunk, value)) true here refl
with_all p (x ∷ xs) chunk value here all =
    let parts = and_parts (p x) (list_all p xs) all in
    elim (cases_order x.0 chunk) [
      | inl same ↦ ap (list_all p) (with_same x xs chunk value same) ∙ and_from (p (chunk, value)) (list_all p xs) here parts.1
      | inr other ↦ elim other [
        | inl less ↦ ap (list_all p) (with_less x xs chunk value less) ∙ and_from (p x) (list_all p (with_entry xs chunk value)) parts.0 (with_all p xs chunk value here parts.1)
        | inr more ↦ ap (list_all p) (with_more x xs chunk value more) ∙ and_from (p (chunk, value)) (list_all p (x ∷ xs)) here all
      ]
    ]

pub over_more : (low high : ℕ) (xs : List Entry) → low ≤ high → list_all (is_over high) xs ≡ true → list_all (is_over low) xs ≡ true
over_more low high xs h all = all_so (is_over high) (is_over low) (λ e l. let above : high < e.0 = ltb-true high e.0 l in lt-ltb low e.0 (omega arith)) xs all

pub with_rises : (xs : List Entry) (chunk value : ℕ) → rises xs ≡ true → rises (with_entry xs chunk value) ≡ true
with_rises [] chunk value h = refl
with_rises (x ∷ xs) chunk value h =
    let parts = and_parts (list_all (is_over x.0) xs) (rises xs) h in
    elim (cases_order x.0 chunk) [
      | inl same ↦ ap rises (with_same x xs chunk value same) ∙ and_from (list_all (is_over chunk) xs) (rises xs) (over_more chunk x.0 xs (omega arith) parts.0) parts.1
      | inr other ↦ elim other [
        | inl less ↦
            ap rises (with_less x xs chunk value less)
            ∙ and_from (list_all (is_over x.0) (with_entry xs chunk value)) (rises (with_entry xs chunk value)) (with_all (is_over x.0) xs chunk value (lt-ltb x.0 chunk less) parts.0) (with_rises xs chunk value parts.1)
        | inr more ↦
            ap rises (with_more x xs chunk value more)
            ∙ and_from (list_all (is_over chunk) (x ∷ xs)) (rises (x ∷ xs)) (and_from (is_over chunk x) (list_all (is_over chunk) xs) (lt-ltb chunk x.0 more) (over_more chunk x.0 xs (omega arith) parts.0)) h
      ]
    ]

pub with_long : (xs : List Entry) (chunk value : ℕ) → (length xs ≤ length (with_entry xs chunk value)) × (length (with_entry xs chunk value) ≤ length xs + 1) × (1 ≤ length (with_entry xs chunk value))
with_long [] chunk value = (omega arith, omega arith, omega arith)
with_long (x ∷ xs) chunk value =
    elim (cases_order x.0 chunk) [
      | inl same ↦ let e = ap (λ (l : List Entry). length l) (with_same x xs chunk value same) in (omega (arith, e), omega (arith, e), omega (arith, e))
      | inr other ↦ elim other [
        | inl less ↦ let e = ap (λ (l : List Entry). length l) (with_less x xs chunk value less) in let more = with_long xs chunk value in (omega (arith, e, more.0), omega (arith, e, more.1), omega (arith, e))
        | inr more ↦ let e = ap (λ (l : List Entry). length l) (with_more x xs chunk value more) in (omega (arith, e), omega (arith, e), omega (arith, e))
      ]
    ]

-- ---- at the place that a search finds

placed_same : (xs : List Entry) (n chunk value : ℕ) → list_all (is_under chunk) (take n xs) ≡ true → is_at xs n chunk ≡ true → set xs n (chunk, value) ≡ with_entry xs chunk value
placed_same [] n chunk value before here = absurd (true≢false (sym here))
placed_same (x ∷ xs) zero chunk value before here = sym (with_same x xs chunk value (eqb-true x.0 chunk here))
placed_same (x ∷ xs) (suc n) chunk value before here =
    let parts = and_parts (is_under chunk x) (list_all (is_under chunk) (take n xs)) before in
    ap (λ (l : List Entry). x ∷ l) (placed_same xs n chunk value parts.1 here) ∙ sym (with_less x xs chunk value (ltb-true x.0 chunk parts.0))

placed_new : (xs : List Entry) (n chunk value : ℕ) → n ≤ length xs → list_all (is_under chunk) (take n xs) ≡ true → list_all (is_from chunk) (drop n xs) ≡ true → is_at xs n chunk ≡ false
    → take n xs ++ (chunk, value) ∷ drop n xs ≡ with_entry xs chunk value
placed_new [] zero chunk value within before behind here = refl
placed_new [] (suc n) chunk value within before behind here = absurd (omega arith)
placed_new (x ∷ xs) zero chunk value within before behind here =
    let above : chunk ≤ x.0 = leb-true chunk x.0 (and_parts (is_from chunk x) (list_all (is_from chunk) xs) behind).0 in
    let other : x.0 ≡ chunk → ⊥ = eqb-false x.0 chunk here in
    sym (with_more x xs chunk value (omega (arith, other)))
placed_new (x ∷ xs) (suc n) chunk value within before behind here =
    let parts = and_parts (is_under chunk x) (list_all (is_under chunk) (take n xs)) before in
    ap (λ (l : List Entry). x ∷ l) (placed_new xs n chunk value (omega arith) parts.1 behind here) ∙ sym (with_less x xs chunk value (ltb-true x.0 chunk parts.0))

pub put_same : (xs : List Entry) (n chunk value : ℕ) → IsCount xs chunk n → is_at xs n chunk ≡ true → set xs n (chunk, value) ≡ with_entry xs chunk value
put_same xs n chunk value count here = placed_same xs n chunk value count.before here

pub put_new : (xs : List Entry) (n chunk value : ℕ) → IsCount xs chunk n → is_at xs n chunk ≡ false → insert xs n (chunk, value) ≡ with_entry xs chunk value
put_new xs n chunk value count here = placed_new xs n chunk value count.within count.before count.behind here

-- ---- the child in which a chunk lies

above_all : (xs : List Entry) (chunk : ℕ) → rises xs ≡ true → list_all (is_from chunk) xs ≡ true → is_at xs 0 chunk ≡ false → list_all (is_over chunk) xs ≡ true
above_all [] chunk rise from here = refl
above_all (x ∷ xs) chunk rise from here =
    let at_or_above : chunk ≤ x.0 = leb-true chunk x.0 (and_parts (is_from chunk x) (list_all (is_from chunk) xs) from).0 in
    let other : x.0 ≡ chunk → ⊥ = eqb-false x.0 chunk here in
    let above : chunk < x.0 = omega (arith, other) in
    and_from (is_over chunk x) (list_all (is_over chunk) xs) (lt-ltb chunk x.0 above) (over_more chunk x.0 xs (omega arith) (and_parts (list_all (is_over x.0) xs) (rises xs) rise).0)

-- a cut that isn't at the front for want of a lower entry
abbrev LowCut : List Entry → ℕ → ℕ → Type 0
LowCut xs chunk n = (before : List Entry) × (chosen : Entry) × (after : List Entry) × (xs ≡ before ++ chosen ∷ after) × (length before ≡ n) × (chosen.0 ≤ chunk) × (list_all (is_over chunk) after ≡ true)

more_low : (x : Entry) (xs : List Entry) (chunk n : ℕ) → LowCut xs chunk n → LowCut (x ∷ xs) chunk (suc n)
more_low x xs chunk n cut = (x ∷ cut.0, cut.1, cut.2, ap (λ (l : List Entry). x ∷ l) cut.3, ap (λ (k : ℕ). suc k) cut.4, cut.5, cut.6)

of_low : (xs : List Entry) (chunk n : ℕ) → LowCut xs chunk n → IsCut xs chunk n
of_low xs chunk n cut = record { before = cut.0; chosen = cut.1; after = cut.2; split = cut.3; place = cut.4; upto = inl cut.5; past = cut.6 }

cut_same : (xs : List Entry) (n chunk : ℕ) → rises xs ≡ true → is_at xs n chunk ≡ true → LowCut xs chunk n
cut_same [] n chunk rise here = absurd (true≢false (sym here))
cut_same (x ∷ xs) zero chunk rise here =
    let same : x.0 ≡ chunk = eqb-true x.0 chunk here in
    ([], x, xs, refl, refl, omega arith, over_more chunk x.0 xs (omega arith) (and_parts (list_all (is_over x.0) xs) (rises xs) rise).0)
cut_same (x ∷ xs) (suc n) chunk rise here = more_low x xs chunk n (cut_same xs n chunk (and_parts (list_all (is_over x.0) xs) (rises xs) rise).1 here)

cut_low : (x : Entry) (xs : List Entry) (n chunk : ℕ) → x.0 ≤ chunk → rises xs ≡ true → n ≤ length xs → list_all (is_under chunk) (take n xs) ≡ true → list_all (is_from chunk) (drop n xs) ≡ true → is_at xs n chunk ≡ false
    → LowCut (x ∷ xs) chunk n
cut_low x xs zero chunk low rise within before behind here = ([], x, xs, refl, refl, low, above_all xs chunk rise behind here)
cut_low x [] (suc n) chunk low rise within before behind here = absurd (omega arith)
cut_low x (y ∷ ys) (suc n) chunk low rise within before behind here =
    let parts = and_parts (is_under chunk y) (list_all (is_under chunk) (take n ys)) before in
    let under : y.0 < chunk = ltb-true y.0 chunk parts.0 in
    more_low x (y ∷ ys) chunk n (cut_low y ys n chunk (omega arith) (and_parts (list_all (is_over y.0) ys) (rises ys) rise).1 (omega arith) parts.1 behind here)

pub cut_at : (xs : List Entry) (chunk n : ℕ) → IsCount xs chunk n → rises xs ≡ true → is_at xs n chunk ≡ true → IsCut xs chunk n
cut_at xs chunk n count rise here = of_low xs chunk n (cut_same xs n chunk rise here)

pub cut_before : (xs : List Entry) (chunk n : ℕ) → IsCount xs chunk n → 1 ≤ length xs → rises xs ≡ true → is_at xs n chunk ≡ false → IsCut xs chunk (n - 1)
cut_before [] chunk n count some rise here = absurd (omega arith)
cut_before (x ∷ xs) chunk zero count some rise here =
    let over = above_all (x ∷ xs) chunk rise count.behind here in
    record { before = []; chosen = x; after = xs; split = refl; place = omega arith; upto = inr refl; past = (and_parts (is_over chunk x) (list_all (is_over chunk) xs) over).1 }
cut_before (x ∷ xs) chunk (suc n) count some rise here =
    let parts = and_parts (is_under chunk x) (list_all (is_under chunk) (take n xs)) count.before in
    let under : x.0 < chunk = ltb-true x.0 chunk parts.0 in
    let within : suc n ≤ suc (length xs) = count.within in
    let low = cut_low x xs n chunk (omega arith) (and_parts (list_all (is_over x.0) xs) (rises xs) rise).1 (omega arith) parts.1 count.behind here in
    let same : n ≡ suc n - 1 = omega arith in
    subst (λ (k : ℕ). IsCut (x ∷ xs) chunk k) same (of_low (x ∷ xs) chunk n low)

pub child_of : (xs : List Entry) (chunk n block : ℕ) (d : Entry) → IsCut xs chunk n → (get_or xs n d).1 ≡ block → IsChild xs chunk n block
child_of xs chunk n block d cut is =
    let read : get_or xs n d ≡ cut.chosen = ap (λ (l : List Entry). get_or l n d) cut.split ∙ get_or_at cut.before cut.chosen cut.after d n cut.place in
    record { cut = cut; leads = ap (λ (e : Entry). e.1) (sym read) ∙ is }

-- ---- written into a slice of the entries

refill_set : (xs ys : List Entry) (n : ℕ) (e : Entry) → ys ≡ xs → refill (length xs) xs (set ys n e) ≡ set xs n e
refill_set xs ys n e same =
    ap (λ (l : List Entry). refill (length xs) xs (set l n e)) same
    ∙ take_at (set xs n e) (drop (length (set xs n e)) xs) (length xs) (length-set xs n e)

pub put_over : (items read read' slice : List Entry) (n chunk value : ℕ) → read ≡ items → read' ≡ items → slice ≡ items → IsCount read chunk n → is_at read' n chunk ≡ true
    → refill (length items) items (set slice n (chunk, value)) ≡ with_entry items chunk value
put_over items read read' slice n chunk value one two three count here =
    refill_set items slice n (chunk, value) three
    ∙ put_same items n chunk value (subst (λ (l : List Entry). IsCount l chunk n) one count) (ap (λ (l : List Entry). is_at l n chunk) (sym two) ∙ here)

pub put_between : (items read read' new : List Entry) (n chunk value : ℕ) → read ≡ items → read' ≡ items → new ≡ insert items n (chunk, value) → IsCount read chunk n → is_at read' n chunk ≡ false → new ≡ with_entry items chunk value
put_between items read read' new n chunk value one two is count here =
    is ∙ put_new items n chunk value (subst (λ (l : List Entry). IsCount l chunk n) one count) (ap (λ (l : List Entry). is_at l n chunk) (sym two) ∙ here)
