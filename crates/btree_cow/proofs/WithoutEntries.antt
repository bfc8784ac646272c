-- Rising entries without a chunk.
use Rattle.std.proofs.Common.{◌≡◌, inl, inr, ℕ, suc, ◌<◌, ◌≤◌, ◌+◌, Bool, true, false, cond, List, [], ◌∷◌, ◌++◌, length, refl, sym, ap, ◌∙◌, subst, arith, ◌&&◌, length-append}
use Rattle.std.specs.Prelude.{Option, Some, None, filter, find, not, ◌==◌, if◌then◌else◌}
use Rattle.std.specs.List.{list_all}
use Rattle.std.specs.List.Retain.{RetainsInTurn}
use Rattle.std.specs.Option.{option_map}
use Rattle.std.proofs.lemmas.Bool.{and_parts, and_from, ltb-true, ne_eqb, not_from_false, cases_order}
use Rattle.std.proofs.lemmas.Option.{none-some}
use Rattle.std.proofs.lemmas.List.Elements.{filter-append}
use Rattle.node_page.specs.Nodes.{Entry, rises}
use Rattle.btree_cow.specs.Trees.{value_of}
use Rattle.btree_cow.specs.Changes.{without_entry}
use Rattle.btree_cow.proofs.Finds.{all_so}
use Rattle.btree_cow.proofs.WithEntries.{is_under, is_over}

-- another chunk
abbrev pub is_other : ℕ → Entry → Bool
is_other chunk e = not (e.0 == chunk)

-- where no call changes the closure or the element, what is retained is what passes the test
pub retained : {X F : Type 0} (R : F → X → Bool → F → X → Type 0) (test : X → Bool) (f : F) → ((x : X) (b : Bool) (f' : F) (y : X) → R f x b f' y → (b ≡ test x) × (f' ≡ f) × (y ≡ x))
    → (xs ys : List X) → RetainsInTurn R f xs ys → ys ≡ filter test xs
retained R test f says [] ys h = h
retained R test f says (x ∷ xs) ys h =
    let said = says x h.0 h.1 h.2 h.3 in
    let rest = retained R test f says xs h.4 (subst (λ g. RetainsInTurn R g xs h.4) said.1 h.5) in
    h.6 ∙ (λ i. cond (said.0 i) (said.2 i ∷ rest i) (rest i))

-- ---- the length

pub filter_short : (p : Entry → Bool) (xs : List Entry) → length (filter p xs) ≤ length xs
filter_short p [] = omega arith
filter_short p (x ∷ xs) =
    let short : length (filter p xs) ≤ length xs = filter_short p xs in
    elim (p x) as (λ (b : Bool). length (cond b (x ∷ filter p xs) (filter p xs)) ≤ suc (length xs)) [ true ↦ omega arith | false ↦ omega arith ]

whole_head : (p : Entry → Bool) (x : Entry) (xs : List Entry) (b : Bool) → (length xs ≤ length (filter p xs) → filter p xs ≡ xs) → suc (length xs) ≤ length (cond b (x ∷ filter p xs) (filter p xs))
    → cond b (x ∷ filter p xs) (filter p xs) ≡ x ∷ xs
whole_head p x xs true more long = ap (λ (l : List Entry). x ∷ l) (more (omega arith))
whole_head p x xs false more long = absurd (omega (arith, filter_short p xs))

pub filter_whole : (p : Entry → Bool) (xs : List Entry) → length xs ≤ length (filter p xs) → filter p xs ≡ xs
filter_whole p [] long = refl
filter_whole p (x ∷ xs) long = whole_head p x xs (p x) (λ h. filter_whole p xs h) long

-- ---- lists without the chunk

pub under_other : (chunk : ℕ) (es : List Entry) → list_all (is_under chunk) es ≡ true → list_all (is_other chunk) es ≡ true
under_other chunk es h = all_so (is_under chunk) (is_other chunk) (λ e l. let less : e.0 < chunk = ltb-true e.0 chunk l in not_from_false (e.0 == chunk) (ne_eqb e.0 chunk (λ same. omega arith))) es h

pub over_other : (chunk : ℕ) (es : List Entry) → list_all (is_over chunk) es ≡ true → list_all (is_other chunk) es ≡ true
over_other chunk es h = all_so (is_over chunk) (is_other chunk) (λ e l. let more : chunk < e.0 = ltb-true chunk e.0 l in not_from_false (e.0 == chunk) (ne_eqb e.0 chunk (λ same. omega arith))) es h

pub without_other : (es : List Entry) (chunk : ℕ) → list_all (is_other chunk) es ≡ true → without_entry es chunk ≡ es
without_other [] chunk h = refl
without_other (e ∷ es) chunk h =
    let parts = and_parts (is_other chunk e) (list_all (is_other chunk) es) h in
    ap (λ (b : Bool). cond b (e ∷ without_entry es chunk) (without_entry es chunk)) parts.0 ∙ ap (λ (l : List Entry). e ∷ l) (without_other es chunk parts.1)

pub without_within : (xs ys zs : List Entry) (chunk : ℕ) → list_all (is_other chunk) xs ≡ true → list_all (is_other chunk) zs ≡ true → without_entry (xs ++ (ys ++ zs)) chunk ≡ xs ++ (without_entry ys chunk ++ zs)
without_within xs ys zs chunk h k =
    filter-append (is_other chunk) xs (ys ++ zs)
    ∙ ap (λ (l : List Entry). l ++ without_entry (ys ++ zs) chunk) (without_other xs chunk h)
    ∙ ap (λ (l : List Entry). xs ++ l) (filter-append (is_other chunk) ys zs ∙ ap (λ (l : List Entry). without_entry ys chunk ++ l) (without_other zs chunk k))

pub fewer_within : (xs ys zs : List Entry) (chunk : ℕ) → list_all (is_other chunk) xs ≡ true → list_all (is_other chunk) zs ≡ true → length (without_entry ys chunk) < length ys
    → length (without_entry (xs ++ (ys ++ zs)) chunk) < length (xs ++ (ys ++ zs))
fewer_within xs ys zs chunk h k less =
    omega (arith, ap (λ (l : List Entry). length l) (without_within xs ys zs chunk h k), length-append xs (without_entry ys chunk ++ zs), length-append (without_entry ys chunk) zs, length-append xs (ys ++ zs), length-append ys zs)

-- a chunk without a value is in no entry
none_head : (chunk : ℕ) (e : Entry) (o : Option Entry) (rest b : Bool) → (o ≡ None → rest ≡ true) → (if b then Some e else o) ≡ None → (not b && rest) ≡ true
none_head chunk e o rest true more h = absurd (none-some e (sym h))
none_head chunk e o rest false more h = more h

none_found : (chunk : ℕ) (es : List Entry) → find (λ (e : Entry). e.0 == chunk) es ≡ None → list_all (is_other chunk) es ≡ true
none_found chunk [] h = refl
none_found chunk (e ∷ es) h = none_head chunk e (find (λ (o : Entry). o.0 == chunk) es) (list_all (is_other chunk) es) (e.0 == chunk) (none_found chunk es) h

none_mapped : (o : Option Entry) → option_map (λ (e : Entry). e.1) o ≡ None → o ≡ None
none_mapped None h = refl
none_mapped (Some e) h = absurd (none-some e.1 (sym h))

pub absent_whole : (es : List Entry) (chunk : ℕ) → value_of es chunk ≡ None → without_entry es chunk ≡ es
absent_whole es chunk h = without_other es chunk (none_found chunk es (none_mapped (find (λ (e : Entry). e.0 == chunk) es) h))

pub never_fewer : (es : List Entry) (chunk : ℕ) → value_of es chunk ≡ None → length (without_entry es chunk) < length es → ⊥
never_fewer es chunk h less = omega (arith, ap (λ (l : List Entry). length l) (absent_whole es chunk h))

-- ---- what stays so

all_head : (p : Entry → Bool) (x : Entry) (xs : List Entry) (b : Bool) → p x ≡ true → list_all p xs ≡ true → list_all p (cond b (x ∷ xs) xs) ≡ true
all_head p x xs true here all = and_from (p x) (list_all p xs) here all
all_head p x xs false here all = all

pub all_without : (p : Entry → Bool) (xs : List Entry) (chunk : ℕ) → list_all p xs ≡ true → list_all p (without_entry xs chunk) ≡ true
all_without p [] chunk h = refl
all_without p (x ∷ xs) chunk h =
    let parts = and_parts (p x) (list_all p xs) h in
    all_head p x (without_entry xs chunk) (is_other chunk x) parts.0 (all_without p xs chunk parts.1)

rises_head : (x : Entry) (xs : List Entry) (b : Bool) → list_all (is_over x.0) xs ≡ true → rises xs ≡ true → rises (cond b (x ∷ xs) xs) ≡ true
rises_head x xs true over rise = and_from (list_all (is_over x.0) xs) (rises xs) over rise
rises_head x xs false over rise = rise

pub without_rises : (xs : List Entry) (chunk : ℕ) → rises xs ≡ true → rises (without_entry xs chunk) ≡ true
without_rises [] chunk h = refl
without_rises (x ∷ xs) chunk h =
    let parts = and_parts (list_all (is_over x.0) xs) (rises xs) h in
    rises_head x (without_entry xs chunk) (is_other chunk x) (all_without (is_over x.0) xs chunk parts.0) (without_rises xs chunk parts.1)

-- at most one entry goes
longer : (x : Entry) (xs : List Entry) (b : Bool) → length xs ≤ length (cond b (x ∷ xs) xs)
longer x xs true = omega arith
longer x xs false = omega arith

pub one_less : (xs : List Entry) (chunk : ℕ) → rises xs ≡ true → length xs ≤ length (without_entry xs chunk) + 1
one_less [] chunk h = omega arith
one_less (x ∷ xs) chunk h =
    let parts = and_parts (list_all (is_over x.0) xs) (rises xs) h in
    elim (cases_order x.0 chunk) [
      | inl same ↦
          let over : list_all (is_over chunk) xs ≡ true = subst (λ (n : ℕ). list_all (is_over n) xs ≡ true) same parts.0 in
          let whole : length (without_entry xs chunk) ≡ length xs = ap (λ (l : List Entry). length l) (without_other xs chunk (over_other chunk xs over)) in
          omega (arith, whole, longer x (without_entry xs chunk) (is_other chunk x))
      | inr differs ↦
          let other : is_other chunk x ≡ true = not_from_false (x.0 == chunk) (ne_eqb x.0 chunk (λ same. elim differs [ inl less ↦ omega arith | inr more ↦ omega arith ])) in
          let kept : length (without_entry (x ∷ xs) chunk) ≡ suc (length (without_entry xs chunk)) = ap (λ (b : Bool). length (cond b (x ∷ without_entry xs chunk) (without_entry xs chunk))) other in
          omega (arith, kept, one_less xs chunk parts.1)
    ]
