-- Each test of a cause, against what it asks in words.
use Rattle.std.proofs.Common.{◌≡◌, ◌≢◌, ℕ, zero, suc, ◌+◌, ◌≤◌, ◌&&◌, ◌||◌, Bool, true, false, cond, not, List, [], ◌∷◌, length, Option, Some, None, codes, nat_eq, nat_le, nat_lt, ◌⊎◌, inl, inr, ◌↔◌, refl, sym, ap, ◌∙◌, arith}
use Rattle.std.specs.Bool.{◌==◌}
use Rattle.std.specs.List.{find, list_all, AllByRecursion}
use Rattle.std.specs.Option.{is_none, is_some, option_map_or}
use Rattle.std.specs.Cmp.Lexicographic.{pointwise, bytes_decides}
use Rattle.std.proofs.lemmas.Bool.{and_from, and_parts, or_from, or_parts, not-false, not_from_true, leb-true, leb-false, le-leb, lt-leb, ltb-false, le-ltb, eqb-true, eqb-false, eq-eqb, ne_eqb, true≢false}
use Rattle.std.proofs.lemmas.Option.{none-some}
use Rattle.forest_model.specs.Limits.{is_wrong_key, is_wrong_body, is_name_byte, is_name, is_worn, any_worn}
use Rattle.forest_model.specs.Stores.{store_of, store_named, has_seq, from_number}
use Rattle.forest_model.specs.State.{OfStore, HasNumber, nothing_new}
use Rattle.forest_model.specs.Step.{◌where_holds◌}
use Rattle.forest_model.specs.declared.refusal.Refusal.{Refusal}
use Rattle.forest_model.specs.declared.state.Commit.{Commit}
use Rattle.forest_model.specs.declared.state.Copying.{Copying}
use Rattle.forest_model.specs.declared.state.State.{State}
use Rattle.forest_model.specs.declared.state.Store.{Store}
use Rattle.model_laws.specs.Answered.{IsKey, IsContent, IsBetween, IsNameByte, IsName, MayDraw, HasName, IsNothingNew, IsAtSeq, HasAtSeq, HasTicket}
use Rattle.model_laws.specs.Reads.{shown_ticket}
use Rattle.model_laws.proofs.Same.{nothing_new_decides}
use Rattle.model_laws.proofs.Steps.{unmet}

pub idle : (why : Refusal) (b : Bool) → b ≡ false → (why where_holds b) ≡ None
idle why b e = ap (λ c. cond c (Some why) None) e

pub key_fits : (key : List ℕ) → (is_wrong_key key ≡ false) ↔ IsKey key
key_fits key = (
  λ e. let p = and_parts _ _ (not-false _ e) in (leb-true _ _ p.0, leb-true _ _ p.1),
  λ k. not_from_true _ (and_from _ _ (le-leb _ _ k.0) (le-leb _ _ k.1)),
)

pub content_fits : (meta body : List ℕ) → (is_wrong_body meta body ≡ false) ↔ IsContent meta body
content_fits meta body = (
  λ e. let p = and_parts _ _ (not-false _ e) in (leb-true _ _ p.0, leb-true _ _ p.1),
  λ k. not_from_true _ (and_from _ _ (le-leb _ _ k.0) (le-leb _ _ k.1)),
)

-- drawn numbers, one to three
pub draws_one : (a : ℕ) → (any_worn (a ∷ []) ≡ false) ↔ MayDraw a
draws_one a = (λ e. leb-false _ a (or_parts _ _ e).0, λ h. or_from _ _ (lt-leb _ a h) refl)

pub draws_two : (a b : ℕ) → (any_worn (a ∷ b ∷ []) ≡ false) ↔ (MayDraw a × MayDraw b)
draws_two a b = (
  λ e. let p = or_parts (is_worn a) (any_worn (b ∷ [])) e in (leb-false _ a p.0, (draws_one b).0 p.1),
  λ h. or_from (is_worn a) (any_worn (b ∷ [])) (lt-leb _ a h.0) ((draws_one b).1 h.1),
)

pub draws_three : (a b c : ℕ) → (any_worn (a ∷ b ∷ c ∷ []) ≡ false) ↔ (MayDraw a × MayDraw b × MayDraw c)
draws_three a b c = (
  λ e. let p = or_parts (is_worn a) (any_worn (b ∷ c ∷ [])) e in let q = (draws_two b c).0 p.1 in (leb-false _ a p.0, q.0, q.1),
  λ h. or_from (is_worn a) (any_worn (b ∷ c ∷ [])) (lt-leb _ a h.0) ((draws_two b c).1 (h.1, h.2)),
)

-- what is found
pub some_is : {X : Type 0} (o : Option X) → (is_none o ≡ false) ↔ ((x : X) × (o ≡ Some x))
some_is None = (λ e. absurd (true≢false e), λ h. absurd (none-some h.0 h.1))
some_is (Some x) = (λ e. (x, refl), λ h. refl)

pub not_found : {X : Type 0} (o : Option X) → is_none o ≡ false → o ≡ None → ⊥
not_found None e f = true≢false e
not_found (Some x) e f = none-some x (sym f)

pub there_is : (o : Option Store) → (is_none o ≡ false) ↔ OfStore o (λ st. Unit {0})
there_is None = (λ e. absurd (true≢false e), λ h. absurd h)
there_is (Some st) = (λ e. tt, λ h. refl)

-- a store that is there, and may come so far
pub store_draws : (o : Option Store) (n place : ℕ)
    → ((is_none o ≡ false) × (any_worn ((option_map_or (λ st. st.seq) o 0 + n) ∷ place ∷ []) ≡ false)) ↔ (OfStore o (λ st. MayDraw (st.seq + n)) × MayDraw place)
store_draws None n place = (λ h. absurd (true≢false h.0), λ h. absurd h.0)
store_draws (Some st) n place = (λ h. (draws_two (st.seq + n) place).0 h.1, λ h. (refl, (draws_two (st.seq + n) place).1 h))

pub named_is : (name : List ℕ) (stores : List Store) → (is_none (store_named stores name) ≡ false) ↔ HasName name stores
named_is name [] = (λ e. absurd (true≢false e), λ h. absurd h)
named_is name (st ∷ stores) = by (pointwise nat_eq st.name name) (bytes_decides st.name name) (named_is name stores)
  where
    by : (b : Bool) → ((b ≡ true → st.name ≡ name) × (st.name ≡ name → b ≡ true)) → (is_none (store_named stores name) ≡ false) ↔ HasName name stores
        → (is_none (cond b (Some st) (store_named stores name)) ≡ false) ↔ ((st.name ≡ name) ⊎ HasName name stores)
    by true d later = (λ e. inl (d.0 refl), λ h. refl)
    by false d later = (λ e. inr (later.0 e), λ h. elim h [ inl e ↦ absurd (true≢false (sym (d.1 e))) | inr l ↦ later.1 l ])

pub numbered_is : (number : ℕ) (commits : List Commit) → (is_none (from_number number commits) ≡ false) ↔ HasNumber number commits
numbered_is number [] = (λ e. absurd (true≢false e), λ h. absurd h)
numbered_is number (c ∷ older) = by (c.number == number) refl (numbered_is number older)
  where
    by : (b : Bool) → (c.number == number) ≡ b → (is_none (from_number number older) ≡ false) ↔ HasNumber number older
        → (is_none (cond b (Some (c, older)) (from_number number older)) ≡ false) ↔ ((c.number ≡ number) ⊎ HasNumber number older)
    by true t later = (λ e. inl (eqb-true c.number number t), λ h. refl)
    by false t later = (λ e. inr (later.0 e), λ h. elim h [ inl e ↦ absurd (eqb-false c.number number t e) | inr l ↦ later.1 l ])

pub at_seq_is : (id seq : ℕ) (c : Commit) → (has_seq id seq c ≡ true → IsAtSeq id seq c) × (IsAtSeq id seq c → has_seq id seq c ≡ true)
at_seq_is id seq c = by (store_of c.stores id)
  where
    by : (o : Option Store) → (option_map_or (λ st. st.seq == seq) o false ≡ true → OfStore o (λ st. st.seq ≡ seq)) × (OfStore o (λ st. st.seq ≡ seq) → option_map_or (λ st. st.seq == seq) o false ≡ true)
    by None = (λ e. absurd (true≢false (sym e)), λ h. absurd h)
    by (Some st) = (λ e. eqb-true st.seq seq e, λ h. eq-eqb st.seq seq h)

pub some_at_seq : (id seq : ℕ) (commits : List Commit) → (is_none (find (has_seq id seq) commits) ≡ false) ↔ HasAtSeq id seq commits
some_at_seq id seq [] = (λ e. absurd (true≢false e), λ h. absurd h)
some_at_seq id seq (c ∷ older) = by (has_seq id seq c) (at_seq_is id seq c) (some_at_seq id seq older)
  where
    by : (b : Bool) → ((b ≡ true → IsAtSeq id seq c) × (IsAtSeq id seq c → b ≡ true)) → (is_none (find (has_seq id seq) older) ≡ false) ↔ HasAtSeq id seq older
        → (is_none (cond b (Some c) (find (has_seq id seq) older)) ≡ false) ↔ (IsAtSeq id seq c ⊎ HasAtSeq id seq older)
    by true d later = (λ e. inl (d.0 refl), λ h. refl)
    by false d later = (λ e. inr (later.0 e), λ h. elim h [ inl e ↦ absurd (true≢false (sym (d.1 e))) | inr l ↦ later.1 l ])

-- the ticket of the compaction
pub ticket_runs : (o : Option Copying) (ticket : ℕ)
    → (((ticket == 0) || not (ticket == option_map_or (λ c. c.ticket) o 0)) ≡ false) ↔ ((1 ≤ ticket) × HasTicket o ticket)
ticket_runs o ticket = (
  λ e. let p = or_parts _ _ e in (positive ticket p.0, has o (eqb-true _ _ (not-false _ p.1)) (positive ticket p.0)),
  λ h. or_from _ _ (ne_eqb ticket 0 (λ e. omega (arith, h.0, e))) (not_from_true _ (eq-eqb _ _ (is o h.1))),
)
  where
    positive : (n : ℕ) → (n == 0) ≡ false → 1 ≤ n
    positive zero e = absurd (true≢false e)
    positive (suc n) e = omega arith

    has : (p : Option Copying) → ticket ≡ option_map_or (λ c. c.ticket) p 0 → 1 ≤ ticket → HasTicket p ticket
    has None e h = absurd (omega (arith, e, h))
    has (Some c) e h = sym e

    is : (p : Option Copying) → HasTicket p ticket → ticket ≡ option_map_or (λ c. c.ticket) p 0
    is None h = absurd h
    is (Some c) h = sym h

pub nothing_copied : (o : Option Copying) → (is_some o ≡ false) ↔ (o ≡ None)
nothing_copied None = (λ e. refl, λ h. refl)
nothing_copied (Some c) = (λ e. absurd (true≢false e), λ h. absurd (none-some c (sym h)))

pub none_left : (left : ℕ) → (nat_lt 0 left ≡ false) ↔ (left ≡ 0)
none_left left = (λ e. omega (arith, ltb-false 0 left e), λ h. le-ltb 0 left (omega (arith, h)))

-- room for so many blocks
pub at_most : (max used : ℕ) → (nat_lt max used ≡ false) ↔ (used ≤ max)
at_most max used = (λ e. ltb-false max used e, λ h. le-ltb max used h)

pub room_is : (why : Refusal) (max used : ℕ) → ((why where_holds nat_lt max used) ≡ None) ↔ (used ≤ max)
room_is why max used = (λ e. ltb-false max used (unmet _ _ e), λ h. idle _ _ (le-ltb max used h))

-- the form of a name
either : (a b : Bool) (P Q : Type 0) → (a ≡ true) ↔ P → (b ≡ true) ↔ Q → ((a || b) ≡ true) ↔ (P ⊎ Q)
either true b P Q p q = (λ e. inl (p.0 refl), λ h. refl)
either false b P Q p q = (λ e. inr (q.0 e), λ h. elim h [ inl x ↦ absurd (true≢false (sym (p.1 x))) | inr y ↦ q.1 y ])

between : (low high b : ℕ) → ((nat_le low b && nat_le b high) ≡ true) ↔ IsBetween low high b
between low high b = (
  λ e. let p = and_parts _ _ e in (leb-true _ _ p.0, leb-true _ _ p.1),
  λ h. and_from _ _ (le-leb _ _ h.0) (le-leb _ _ h.1),
)

is_code : (code b : ℕ) → ((b == code) ≡ true) ↔ (b ≡ code)
is_code code b = (λ e. eqb-true b code e, λ h. eq-eqb b code h)

-- alternatives that are grouped from the left, and from the right
regrouped : (A B C D E F : Type 0) → (((((A ⊎ B) ⊎ C) ⊎ D) ⊎ E) ⊎ F) ↔ (A ⊎ B ⊎ C ⊎ D ⊎ E ⊎ F)
regrouped A B C D E F = (
  λ h. elim h [
    | inl g ↦ elim g [
      | inl f ↦ elim f [
        | inl e ↦ elim e [ inl d ↦ elim d [ inl a ↦ inl a | inr b ↦ inr (inl b) ] | inr c ↦ inr (inr (inl c)) ]
        | inr d ↦ inr (inr (inr (inl d)))
      ]
      | inr e ↦ inr (inr (inr (inr (inl e))))
    ]
    | inr f ↦ inr (inr (inr (inr (inr f))))
  ],
  λ h. elim h [
    | inl a ↦ inl (inl (inl (inl (inl a))))
    | inr g ↦ elim g [
      | inl b ↦ inl (inl (inl (inl (inr b))))
      | inr f ↦ elim f [
        | inl c ↦ inl (inl (inl (inr c)))
        | inr e ↦ elim e [ inl d ↦ inl (inl (inr d)) | inr d ↦ elim d [ inl x ↦ inl (inr x) | inr y ↦ inr y ] ]
      ]
    ]
  ],
)

name_byte : (b : ℕ) → (is_name_byte b ≡ true) ↔ IsNameByte b
name_byte b =
    let letters = either _ _ _ _ (between 97 122 b) (between 65 90 b) in
    let alphanumeric = either _ _ _ _ letters (between 48 57 b) in
    let with_underscore = either _ _ _ _ alphanumeric (is_code 95 b) in
    let all = either _ _ _ _ (either _ _ _ _ with_underscore (is_code 45 b)) (is_code 46 b) in
    let groups = regrouped (IsBetween 97 122 b) (IsBetween 65 90 b) (IsBetween 48 57 b) (b ≡ 95) (b ≡ 45) (b ≡ 46) in
    (λ e. groups.0 (all.0 e), λ h. all.1 (groups.1 h))

name_bytes : (name : List ℕ) → (list_all is_name_byte name ≡ true) ↔ AllByRecursion IsNameByte name
name_bytes [] = (λ e. tt, λ h. refl)
name_bytes (b ∷ name) = (
  λ e. let p = and_parts (is_name_byte b) (list_all is_name_byte name) e in ((name_byte b).0 p.0, (name_bytes name).0 p.1),
  λ h. and_from (is_name_byte b) (list_all is_name_byte name) ((name_byte b).1 h.0) ((name_bytes name).1 h.1),
)

pub name_is : (name : List ℕ) → (is_name name ≡ true) ↔ IsName name
name_is name = (
  λ e.
      let p = and_parts (nat_le 1 (length name) && nat_le (length name) 31) (list_all is_name_byte name) e in
      let q = and_parts (nat_le 1 (length name)) (nat_le (length name) 31) p.0 in
      (leb-true _ _ q.0, leb-true _ _ q.1, (name_bytes name).0 p.1),
  λ h. and_from _ _ (and_from _ _ (le-leb _ _ h.0) (le-leb _ _ h.1)) ((name_bytes name).1 h.2),
)

pub name_fits : (name : List ℕ) → (not (is_name name) ≡ false) ↔ IsName name
name_fits name = (λ e. (name_is name).0 (not-false _ e), λ h. not_from_true _ ((name_is name).1 h))

pub may_go : (name : List ℕ) → ((not (is_name name) || pointwise nat_eq name (codes "default")) ≡ false) ↔ (IsName name × (name ≢ codes "default"))
may_go name = (
  λ e. let p = or_parts _ _ e in ((name_is name).0 (not-false _ p.0), λ same. true≢false (sym ((bytes_decides name (codes "default")).1 same) ∙ p.1)),
  λ h. or_from _ _ (not_from_true _ ((name_is name).1 h.0)) (by (pointwise nat_eq name (codes "default")) (bytes_decides name (codes "default")).0 h.1),
)
  where
    by : (b : Bool) → (b ≡ true → name ≡ codes "default") → name ≢ codes "default" → b ≡ false
    by true d n = absurd (n (d refl))
    by false d n = refl

-- a test that counts only where another holds
pub only_where : (b c : Bool) → ((b && c) ≡ false) ↔ ((b ≡ false) ⊎ ((b ≡ true) × (c ≡ false)))
only_where true c = (λ e. inr (refl, e), λ h. elim h [ inl e ↦ absurd (true≢false e) | inr p ↦ p.1 ])
only_where false c = (λ e. inl refl, λ h. refl)

pub is_new : (s : State) → (nothing_new s ≡ true → IsNothingNew s) × (IsNothingNew s → nothing_new s ≡ true)
is_new s = nothing_new_decides s

-- the ticket that is shown
pub ticket_shown : (o : Option Copying) → option_map_or (λ c. c.ticket) o 0 ≡ shown_ticket o
ticket_shown None = refl
ticket_shown (Some c) = refl
