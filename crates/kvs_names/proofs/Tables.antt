-- The calls keep the rules of a table.
use Rattle.std.proofs.Common.{◌≡◌, ◌≢◌, ℕ, ◌+◌, ◌<◌, ◌≤◌, Bool, true, false, cond, not, List, [], ◌∷◌, ◌++◌, length, map, filter, refl, sym, ◌∙◌, subst, arith, length-append}
use Rattle.std.specs.Prelude.{◌==◌, nat_eq, Some, is_none, if◌then◌else◌}
use Rattle.std.specs.List.{AllByRecursion}
use Rattle.std.specs.Cmp.Lexicographic.{pointwise, nat_list_eq_equiv}
use Rattle.std.proofs.lemmas.Bool.{eqb-true}
use Rattle.std.proofs.lemmas.List.{length-map}
use Rattle.forest_model.specs.State.{EachLater}
use Rattle.forest_model.specs.Stored.{StoreRow}
use Rattle.kvs_names.specs.Table.{IsTable, BeginsWithDefault, AreBelow, row_named, with_numbers}

-- ---- lists in general

all_more : {X : Type 0} (P : X → Type 0) (xs : List X) (x : X) → AllByRecursion P xs → P x → AllByRecursion P (xs ++ x ∷ [])
all_more P [] x all here = (here, tt)
all_more P (y ∷ ys) x all here = (all.0, all_more P ys x all.1 here)

all_of : {X : Type 0} (P Q : X → Type 0) → ((x : X) → P x → Q x) → (xs : List X) → AllByRecursion P xs → AllByRecursion Q xs
all_of P Q gives [] all = tt
all_of P Q gives (x ∷ xs) all = (gives x all.0, all_of P Q gives xs all.1)

all_filter : {X : Type 0} (P : X → Type 0) (p : X → Bool) (xs : List X) → AllByRecursion P xs → AllByRecursion P (filter p xs)
all_filter P p [] all = tt
all_filter P p (x ∷ xs) all =
    let rest = all_filter P p xs all.1 in
    elim (p x) as (λ b. AllByRecursion P (cond b (x ∷ filter p xs) (filter p xs))) [ true ↦ (all.0, rest) | false ↦ rest ]

all_map : {X : Type 0} (P : X → Type 0) (f : X → X) → ((x : X) → P x → P (f x)) → (xs : List X) → AllByRecursion P xs → AllByRecursion P (map f xs)
all_map P f keeps [] all = tt
all_map P f keeps (x ∷ xs) all = (keeps x all.0, all_map P f keeps xs all.1)

later_more : {X : Type 0} (R : X → X → Type 0) (xs : List X) (x : X) → EachLater R xs → AllByRecursion (λ y. R y x) xs → EachLater R (xs ++ x ∷ [])
later_more R [] x each all = (tt, tt)
later_more R (y ∷ ys) x each all = (all_more (R y) ys x each.0 all.0, later_more R ys x each.1 all.1)

later_filter : {X : Type 0} (R : X → X → Type 0) (p : X → Bool) (xs : List X) → EachLater R xs → EachLater R (filter p xs)
later_filter R p [] each = tt
later_filter R p (x ∷ xs) each =
    let rest = later_filter R p xs each.1 in
    elim (p x) as (λ b. EachLater R (cond b (x ∷ filter p xs) (filter p xs))) [ true ↦ (all_filter (R x) p xs each.0, rest) | false ↦ rest ]

later_map : {X : Type 0} (R : X → X → Type 0) (f : X → X) → ((x y : X) → R x y → R (f x) (f y)) → (xs : List X) → EachLater R xs → EachLater R (map f xs)
later_map R f keeps [] each = tt
later_map {X = X} R f keeps (x ∷ xs) each = (all_later xs each.0, later_map R f keeps xs each.1)
  where
    all_later : (ys : List X) → AllByRecursion (R x) ys → AllByRecursion (R (f x)) (map f ys)
    all_later [] all = tt
    all_later (y ∷ ys) all = (keeps x y all.0, all_later ys all.1)

length_filter : {X : Type 0} (p : X → Bool) (xs : List X) → length (filter p xs) ≤ length xs
length_filter p [] = omega arith
length_filter p (x ∷ xs) =
    let rest = length_filter p xs in
    elim (p x) as (λ b. length (cond b (x ∷ filter p xs) (filter p xs)) ≤ length (x ∷ xs)) [ true ↦ omega arith | false ↦ omega arith ]

-- ---- a new store

-- where a name isn't found, every store has another one
other_name : (b : Bool) (s : StoreRow) (name : List ℕ) → pointwise nat_eq s.name name ≡ b → b ≡ false → s.name ≢ name
other_name b s name tested is same =
    let tested_yes : pointwise nat_eq s.name name ≡ true = subst (λ other. pointwise nat_eq s.name other ≡ true) same (nat_list_eq_equiv.refl s.name) in
    let wrong : true ≡ false = sym tested_yes ∙ tested ∙ is in
    cc

absent : (rows : List StoreRow) (name : List ℕ) → is_none (row_named rows name) ≡ true → AllByRecursion (λ s. s.name ≢ name) rows
absent [] name none = tt
absent (s ∷ later) name none =
    elim (pointwise nat_eq s.name name) as (λ b. pointwise nat_eq s.name name ≡ b → is_none (cond b (Some s) (row_named later name)) ≡ true → AllByRecursion (λ s. s.name ≢ name) (s ∷ later)) [
      | true ↦ λ is wrong. cc
      | false ↦ λ is rest. (other_name false s name is refl, absent later name rest)
    ] refl none

before_new : (next : ℕ) (name : List ℕ) (n : StoreRow) → n.id ≡ next → n.name ≡ name → (rows : List StoreRow) → AreBelow next rows → AllByRecursion (λ s. s.name ≢ name) rows
    → AllByRecursion (λ s. (s.id < n.id) × (s.name ≢ n.name)) rows
before_new next name n id_is name_is [] below others = tt
before_new next name n id_is name_is (s ∷ later) below others =
    ((omega (arith, below.0), λ same. others.0 (same ∙ name_is)), before_new next name n id_is name_is later below.1 others.1)

begins_more : (rows : List StoreRow) (s : StoreRow) → BeginsWithDefault rows → BeginsWithDefault (rows ++ s ∷ [])
begins_more [] s begins = absurd begins
begins_more (t ∷ later) s begins = begins

pub table_with_new : (rows : List StoreRow) (next : ℕ) (name : List ℕ) (n : StoreRow) → n.id ≡ next → n.name ≡ name → IsTable rows next → is_none (row_named rows name) ≡ true → length rows < 64
    → IsTable (rows ++ n ∷ []) (next + 1)
table_with_new rows next name n id_is name_is table none room = record {
  default = begins_more rows n table.default;
  apart = later_more _ rows n table.apart (before_new next name n id_is name_is rows table.below (absent rows name none));
  below = all_more _ rows n (all_of (λ s. s.id < next) (λ s. s.id < next + 1) (λ s h. omega arith) rows table.below) (omega arith);
  at_most = omega (arith, length-append rows (n ∷ []));
}

-- ---- without a store

begins_without : (rows : List StoreRow) (id : ℕ) → id ≢ 0 → BeginsWithDefault rows → BeginsWithDefault (filter (λ s. not (s.id == id)) rows)
begins_without [] id other begins = begins
begins_without (s ∷ later) id other begins =
    let stays = filter (λ s. not (s.id == id)) later in
    elim (s.id == id) as (λ b. s.id == id ≡ b → BeginsWithDefault (cond (not b) (s ∷ stays) stays)) [
      | true ↦ λ is. absurd (other (sym (eqb-true s.id id is) ∙ begins.0))
      | false ↦ λ is. begins
    ] refl

pub table_without : (rows : List StoreRow) (next id : ℕ) → id ≢ 0 → IsTable rows next → IsTable (filter (λ s. not (s.id == id)) rows) next
table_without rows next id other table = record {
  default = begins_without rows id other table.default;
  apart = later_filter _ (λ s. not (s.id == id)) rows table.apart;
  below = all_filter _ (λ s. not (s.id == id)) rows table.below;
  at_most = let fewer = length_filter (λ (s : StoreRow). not (s.id == id)) rows in omega (arith, fewer, table.at_most);
}

-- ---- other numbers

same_id : (id seq documents : ℕ) (s : StoreRow) → (with_numbers id seq documents s).id ≡ s.id
same_id id seq documents s = elim (s.id == id) as (λ b. (if b then record s { seq = seq; documents = documents } else s).id ≡ s.id) [ true ↦ refl | false ↦ refl ]

same_name : (id seq documents : ℕ) (s : StoreRow) → (with_numbers id seq documents s).name ≡ s.name
same_name id seq documents s = elim (s.id == id) as (λ b. (if b then record s { seq = seq; documents = documents } else s).name ≡ s.name) [ true ↦ refl | false ↦ refl ]

begins_counted : (id seq documents : ℕ) (rows : List StoreRow) → BeginsWithDefault rows → BeginsWithDefault (map (with_numbers id seq documents) rows)
begins_counted id seq documents [] begins = begins
begins_counted id seq documents (s ∷ later) begins = (same_id id seq documents s ∙ begins.0, same_name id seq documents s ∙ begins.1)

pub table_counted : (rows : List StoreRow) (next id seq documents : ℕ) → IsTable rows next → IsTable (map (with_numbers id seq documents) rows) next
table_counted rows next id seq documents table = record {
  default = begins_counted id seq documents rows table.default;
  apart = later_map _ (with_numbers id seq documents) (λ s t apart. (omega (arith, apart.0, same_id id seq documents s, same_id id seq documents t), λ same. apart.1 (sym (same_name id seq documents s) ∙ same ∙ same_name id seq documents t))) rows table.apart;
  below = all_map _ (with_numbers id seq documents) (λ s below. omega (arith, below, same_id id seq documents s)) rows table.below;
  at_most = omega (arith, length-map rows (with_numbers id seq documents), table.at_most);
}
