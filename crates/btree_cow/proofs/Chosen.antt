-- What stands at a rank: the nearest entry of a leaf, the child to go on with.
use Rattle.std.proofs.Common.{◌≡◌, ◌⊎◌, inl, inr, ℕ, zero, suc, ◌<◌, ◌≤◌, ◌+◌, ◌-◌, Bool, true, false, List, [], ◌∷◌, ◌++◌, length, take, drop, refl, sym, ap, ◌∙◌, subst, arith, add-one, take_all, take-append-drop}
use Rattle.std.specs.Prelude.{Option, Some, None, not, nat_lt, ◌==◌, slice_get, find, reverse}
use Rattle.std.specs.List.{list_all}
use Rattle.std.specs.Option.{option_or}
use Rattle.std.proofs.lemmas.Bool.{and_parts, lt-ltb, ltb-false, or_parts, eqb-true, eqb-false, ltb-true, true≢false, not-true, not-false, or_cases, cases_order}
use Rattle.std.proofs.lemmas.Option.{none-some, same_Some}
use Rattle.std.proofs.lemmas.List.Folds.{find-append}
use Rattle.node_page.specs.Nodes.{Entry}
use Rattle.btree_cow.specs.Trees.{is_past, nearest}
use Rattle.btree_cow.specs.Walks.{is_late, IsRank, IsSibling, IsChoice}
use Rattle.btree_cow.proofs.Finds.{all_so, all_back, find_none, find_none_down, find_first, find_last, find_down}

-- ---- a list at a place

pub drop_there : {X : Type 0} (xs : List X) (n : ℕ) (x : X) → slice_get xs n ≡ Some x → drop n xs ≡ x ∷ drop (suc n) xs
drop_there [] n x is = absurd (none-some x is)
drop_there (y ∷ xs) zero x is = ap (λ z. z ∷ xs) (same_Some y x is)
drop_there (y ∷ xs) (suc n) x is = drop_there xs n x is

pub take_there : {X : Type 0} (xs : List X) (n : ℕ) (x : X) → slice_get xs n ≡ Some x → take (suc n) xs ≡ take n xs ++ x ∷ []
take_there [] n x is = absurd (none-some x is)
take_there (y ∷ xs) zero x is = ap (λ z. z ∷ []) (same_Some y x is)
take_there (y ∷ xs) (suc n) x is = ap (λ zs. y ∷ zs) (take_there xs n x is)

pub cut_there : {X : Type 0} (xs : List X) (n : ℕ) (x : X) → slice_get xs n ≡ Some x → xs ≡ take n xs ++ x ∷ drop (suc n) xs
cut_there {X} xs n x is = sym (take-append-drop n xs) ∙ ap (λ (l : List X). take n xs ++ l) (drop_there xs n x is)

-- ---- the nearest entry

module _ (with : Bool) (q : ℕ) (es : List Entry) (n : ℕ) where
  pub nearest_up : (e : Entry) → IsRank (is_late with true q) es n → slice_get es n ≡ Some e → Some e ≡ nearest with true es q
  nearest_up e r is =
      let p : Entry → Bool = λ e. is_past with true q e.0 in
      let front : list_all (λ (e : Entry). not (p e)) (take n es) ≡ true = r.early in
      let there = drop_there es n e is in
      let here : p e ≡ true = (and_parts (p e) (list_all p (drop (suc n) es)) (ap (list_all p) (sym there) ∙ r.behind)).0 in
      sym (ap (find p) (cut_there es n e is)
      ∙ find-append p (take n es) (e ∷ drop (suc n) es)
      ∙ ap (λ (o : Option Entry). option_or o (find p (e ∷ drop (suc n) es))) (find_none p (take n es) front)
      ∙ find_first p e (drop (suc n) es) (ap (list_all p) (sym there) ∙ r.behind))

  pub none_upwards : IsRank (is_late with true q) es n → length es ≤ n → None ≡ nearest with true es q
  none_upwards r all =
      let p : Entry → Bool = λ e. is_past with true q e.0 in
      sym (find_none p es (ap (list_all (λ (e : Entry). not (p e))) (sym (take_all n es all)) ∙ r.early))

  down_parts : IsRank (is_late with false q) es n → nearest with false es q ≡ find (λ (e : Entry). is_past with false q e.0) (reverse (take n es))
  down_parts r =
      let p : Entry → Bool = λ e. is_past with false q e.0 in
      ap (λ (l : List Entry). find p (reverse l)) (sym (take-append-drop n es))
      ∙ find_down p (take n es) (drop n es)
      ∙ ap (λ (o : Option Entry). option_or o (find p (reverse (take n es)))) (find_none_down p (drop n es) r.behind)

pub nearest_down : (with : Bool) (q : ℕ) (es : List Entry) (n : ℕ) (e : Entry) → IsRank (is_late with false q) es (suc n) → slice_get es n ≡ Some e → Some e ≡ nearest with false es q
nearest_down with q es n e r is =
    let p : Entry → Bool = λ e. is_past with false q e.0 in
    let early : list_all (λ (e : Entry). not (not (p e))) (take n es ++ e ∷ []) ≡ true = ap (list_all (λ (e : Entry). not (not (p e)))) (sym (take_there es n e is)) ∙ r.early in
    let last : not (not (p e)) ≡ true = (and_parts (not (not (p e))) true (all_back (λ (e : Entry). not (not (p e))) (take n es) (e ∷ []) early)).0 in
    sym (down_parts with q es (suc n) r
    ∙ ap (λ (l : List Entry). find p (reverse l)) (take_there es n e is)
    ∙ find_last p (take n es) e (not-false (p e) (not-true (not (p e)) last)))

pub none_downwards : (with : Bool) (q : ℕ) (es : List Entry) (n : ℕ) → n ≡ 0 → IsRank (is_late with false q) es n → None ≡ nearest with false es q
none_downwards with q es n none r =
    sym (down_parts with q es n r ∙ ap (λ (k : ℕ). find (λ (e : Entry). is_past with false q e.0) (reverse (take k es))) none)

-- ---- the child

above_q : (q : ℕ) (e : Entry) → is_late true false q e ≡ true → nat_lt q e.0 ≡ true
above_q q e late =
    let parts = or_parts (q == e.0) (nat_lt e.0 q) (not-true (is_past true false q e.0) late) in
    let least : q ≤ e.0 = ltb-false e.0 q parts.1 in
    elim (cases_order q e.0) [
      | inl same ↦ absurd (eqb-false q e.0 parts.0 same)
      | inr other ↦ elim other [ inl less ↦ lt-ltb q e.0 less | inr more ↦ absurd (omega arith) ]
    ]

upto_q : (q : ℕ) (e : Entry) → not (is_late true false q e) ≡ true → e.0 ≤ q
upto_q q e early = elim (or_cases (q == e.0) (nat_lt e.0 q) (not-false (is_past true false q e.0) (not-true (is_late true false q e) early))) [
  | inl same ↦ let is : q ≡ e.0 = eqb-true q e.0 same in omega arith
  | inr less ↦ let is : e.0 < q = ltb-true e.0 q less in omega arith
]

all_above : (q : ℕ) (es : List Entry) → list_all (is_late true false q) es ≡ true → list_all (λ (e : Entry). nat_lt q e.0) es ≡ true
all_above q es all = all_so (is_late true false q) (λ (e : Entry). nat_lt q e.0) (above_q q) es all

pub none_upto : (q : ℕ) (es : List Entry) (n : ℕ) → n ≡ 0 → IsRank (is_late true false q) es n → list_all (λ (e : Entry). nat_lt q e.0) es ≡ true
none_upto q es n none r = all_above q es (ap (λ (k : ℕ). list_all (is_late true false q) (drop k es)) (sym none) ∙ r.behind)

-- the last child at or below the chunk
pub choice_at : (up : Bool) (q : ℕ) (es : List Entry) (n : ℕ) (e : Entry) (child : ℕ) (sibling : Option ℕ) → IsRank (is_late true false q) es (suc n) → slice_get es n ≡ Some e → e.1 ≡ child
    → IsSibling up (take n es) (drop (suc n) es) sibling → IsChoice up q es child sibling
choice_at up q es n e child sibling r is same next = record {
  before = take n es;
  chosen = e;
  after = drop (suc n) es;
  split = cut_there es n e is;
  child_is = same;
  upto = inl (upto_q q e (and_parts (not (is_late true false q e)) true
      (all_back (λ (e : Entry). not (is_late true false q e)) (take n es) (e ∷ []) (ap (list_all (λ (e : Entry). not (is_late true false q e))) (sym (take_there es n e is)) ∙ r.early))).0);
  past = all_above q (drop (suc n) es) r.behind;
  sibling_is = next;
}

-- the first child, where all lie above it
pub choice_first : (q : ℕ) (es : List Entry) (e : Entry) (child : ℕ) (sibling : Option ℕ) → IsRank (is_late true false q) es 0 → slice_get es 0 ≡ Some e → e.1 ≡ child
    → IsSibling true [] (drop 1 es) sibling → IsChoice true q es child sibling
choice_first q es e child sibling r is same next = record {
  before = [];
  chosen = e;
  after = drop 1 es;
  split = cut_there es 0 e is;
  child_is = same;
  upto = inr (refl, refl);
  past = (and_parts (nat_lt q e.0) (list_all (λ (e : Entry). nat_lt q e.0) (drop 1 es)) (ap (list_all (λ (e : Entry). nat_lt q e.0)) (sym (cut_there es 0 e is)) ∙ all_above q es r.behind)).1;
  sibling_is = next;
}

-- ---- either way

pub come_to_up : (with up : Bool) (q : ℕ) (es : List Entry) (n : ℕ) (e : Entry) → up ≡ true → IsRank (is_late with up q) es n → slice_get es n ≡ Some e → Some e ≡ nearest with up es q
come_to_up with true q es n e is r there = nearest_up with q es n e r there
come_to_up with false q es n e is r there = absurd (true≢false (sym is))

pub nothing_up : (with up : Bool) (q : ℕ) (es : List Entry) (n : ℕ) → up ≡ true → IsRank (is_late with up q) es n → length es ≤ n → None ≡ nearest with up es q
nothing_up with true q es n is r all = none_upwards with q es n r all
nothing_up with false q es n is r all = absurd (true≢false (sym is))

pub come_to_down : (with up : Bool) (q : ℕ) (es : List Entry) (n : ℕ) (e : Entry) → up ≡ false → 0 < n → IsRank (is_late with up q) es n → slice_get es (n - 1) ≡ Some e → Some e ≡ nearest with up es q
come_to_down with true q es n e is some r there = absurd (true≢false is)
come_to_down with false q es n e is some r there =
    let whole : n ≡ suc (n - 1) = omega arith in
    nearest_down with q es (n - 1) e (subst (λ (k : ℕ). IsRank (is_late with false q) es k) whole r) there

pub nothing_down : (with up : Bool) (q : ℕ) (es : List Entry) (n : ℕ) → up ≡ false → n ≡ 0 → IsRank (is_late with up q) es n → None ≡ nearest with up es q
nothing_down with true q es n is none r = absurd (true≢false is)
nothing_down with false q es n is none r = none_downwards with q es n none r

pub sibling_up : (up : Bool) (es : List Entry) (n : ℕ) (x : Entry) → up ≡ true → slice_get es (n + 1) ≡ Some x → IsSibling up (take n es) (drop (n + 1) es) (Some x.1)
sibling_up true es n x is there = (x, drop (suc (n + 1)) es, drop_there es (n + 1) x there, refl)
sibling_up false es n x is there = absurd (true≢false (sym is))

pub sibling_down : (up : Bool) (es after : List Entry) (n : ℕ) (x : Entry) → up ≡ false → 0 < n → slice_get es (n - 1) ≡ Some x → IsSibling up (take n es) after (Some x.1)
sibling_down true es after n x is some there = absurd (true≢false is)
sibling_down false es after n x is some there =
    let whole : n ≡ suc (n - 1) = omega arith in
    (take (n - 1) es, x, ap (λ (k : ℕ). take k es) whole ∙ take_there es (n - 1) x there, refl)

pub choice : (up : Bool) (q : ℕ) (es : List Entry) (rank chosen : ℕ) (e : Entry) (sibling : Option ℕ) → ((rank ≡ 0) × (up ≡ true)) ⊎ (rank ≡ 0 → ⊥) → chosen ≡ rank - 1 → IsRank (is_late true false q) es rank
    → slice_get es chosen ≡ Some e → IsSibling up (take chosen es) (drop (chosen + 1) es) sibling → IsChoice up q es e.1 sibling
choice true q es zero chosen e sibling how place r there next =
    let first : chosen ≡ 0 = omega arith in
    choice_first q es e e.1 sibling r (ap (λ (k : ℕ). slice_get es k) (sym first) ∙ there) refl
    (subst (λ (k : ℕ). IsSibling true (take k es) (drop (k + 1) es) sibling) first next)
choice false q es zero chosen e sibling (inl none) place r there next = absurd (true≢false (sym none.1))
choice false q es zero chosen e sibling (inr some) place r there next = absurd (some refl)
choice up q es (suc n) chosen e sibling how place r there next =
    let same : chosen ≡ n = omega arith in
    choice_at up q es n e e.1 sibling r (ap (λ (k : ℕ). slice_get es k) (sym same) ∙ there) refl
    (subst (λ (k : ℕ). IsSibling up (take n es) (drop k es) sibling) (add-one n) (subst (λ (k : ℕ). IsSibling up (take k es) (drop (k + 1) es) sibling) same next))
