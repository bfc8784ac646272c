-- The nearest entry, and the value of a chunk, in lists one behind another.
use Rattle.std.proofs.Common.{◌≡◌, inl, inr, ℕ, zero, suc, ◌<◌, ◌≤◌, ◌-◌, ◌^◌, Bool, true, false, List, ◌++◌, length, refl, ap, ◌∙◌, arith, ◌&&◌}
use Rattle.std.specs.Prelude.{Option, None, not, nat_lt, find, reverse, ◌==◌, if◌then◌else◌}
use Rattle.std.specs.List.{list_all}
use Rattle.std.specs.Option.{option_or, option_map}
use Rattle.std.proofs.lemmas.Bool.{and_parts, ltb-true, lt-ltb, le-ltb, ne_eqb, or_right, or_left, or_from, eq-eqb, cases_order}
use Rattle.std.proofs.lemmas.List.Folds.{find-append}
use Rattle.node_page.specs.Nodes.{Entry, fits}
use Rattle.btree_cow.specs.Trees.{is_past, nearest, value_of}
use Rattle.btree_cow.specs.Walks.{edge, first_of}
use Rattle.btree_cow.proofs.Finds.{all_so, find_none, find_none_down, find_down, find_same, find_same_down, found_first, found_last, or_found, or_nothing, IsFound}

-- ---- which chunks a search comes to

and_false : (b : Bool) → (b && false) ≡ false
and_false true = refl
and_false false = refl

pub past_above : (with : Bool) (q n : ℕ) → q < n → is_past with true q n ≡ true
past_above with q n above = or_right (with && (q == n)) (nat_lt q n) (lt-ltb q n above)

pub past_below : (with : Bool) (q n : ℕ) → n < q → is_past with false q n ≡ true
past_below with q n under = or_right (with && (q == n)) (nat_lt n q) (lt-ltb n q under)

pub not_past_below : (with : Bool) (q n : ℕ) → n < q → is_past with true q n ≡ false
not_past_below with q n under =
    or_from (with && (q == n)) (nat_lt q n) (ap (λ (b : Bool). with && b) (ne_eqb q n (λ e. omega arith)) ∙ and_false with) (le-ltb q n (omega arith))

pub not_past_above : (with : Bool) (q n : ℕ) → q < n → is_past with false q n ≡ false
not_past_above with q n above =
    or_from (with && (q == n)) (nat_lt n q) (ap (λ (b : Bool). with && b) (ne_eqb q n (λ e. omega arith)) ∙ and_false with) (le-ltb n q (omega arith))

past_same : (up : Bool) (q : ℕ) → is_past true up q q ≡ true
past_same up q = or_left (true && (q == q)) (if up then nat_lt q q else nat_lt q q) (eq-eqb q q refl)

-- from the edge a search comes to all
pub past_edge : (up : Bool) (e : Entry) → fits e ≡ true → is_past true up (edge up) e.0 ≡ true
past_edge true e h = upward e.0
  where
    upward : (n : ℕ) → is_past true true 0 n ≡ true
    upward zero = refl
    upward (suc n) = past_above true 0 (suc n) (omega arith)
past_edge false e h =
    let small : e.0 < 2 ^ 64 = ltb-true e.0 (2 ^ 64) (and_parts _ _ h).0 in
    elim (cases_order e.0 (2 ^ 64 - 1)) [
      | inl same ↦ ap (is_past true false (2 ^ 64 - 1)) same ∙ past_same false (2 ^ 64 - 1)
      | inr other ↦ elim other [ inl under ↦ past_below true (2 ^ 64 - 1) e.0 under | inr above ↦ absurd (omega arith) ]
    ]

pub past_all : (up : Bool) (es : List Entry) → list_all fits es ≡ true → list_all (λ (e : Entry). is_past true up (edge up) e.0) es ≡ true
past_all up es h = all_so fits (λ (e : Entry). is_past true up (edge up) e.0) (past_edge up) es h

pub first_found : (up : Bool) (es : List Entry) → 1 ≤ length es → list_all fits es ≡ true → IsFound (first_of up es)
first_found true es some h = found_first (λ (e : Entry). is_past true true (edge true) e.0) es some (past_all true es h)
first_found false es some h = found_last (λ (e : Entry). is_past true false (edge false) e.0) es some (past_all false es h)

-- ---- a part that holds the nearest one

pub near_up : (with : Bool) (q : ℕ) (e1 first e3 : List Entry) → list_all (λ (e : Entry). not (is_past with true q e.0)) e1 ≡ true
    → nearest with true (e1 ++ (first ++ e3)) q ≡ option_or (nearest with true first q) (nearest with true e3 q)
near_up with q e1 first e3 h =
    let p = λ (e : Entry). is_past with true q e.0 in
    find-append p e1 (first ++ e3) ∙ ap (λ (o : Option Entry). option_or o (find p (first ++ e3))) (find_none p e1 h) ∙ find-append p first e3

pub near_down : (with : Bool) (q : ℕ) (e1 first e3 : List Entry) → list_all (λ (e : Entry). not (is_past with false q e.0)) e3 ≡ true
    → nearest with false (e1 ++ (first ++ e3)) q ≡ option_or (nearest with false first q) (nearest with false e1 q)
near_down with q e1 first e3 h =
    let p = λ (e : Entry). is_past with false q e.0 in
    find_down p e1 (first ++ e3)
    ∙ ap (λ (o : Option Entry). option_or o (find p (reverse e1))) (find_down p first e3 ∙ ap (λ (o : Option Entry). option_or o (find p (reverse first))) (find_none_down p e3 h))

-- behind a part that has none, all are come to: the first of the next part is the nearest
pub first_up : (with : Bool) (q : ℕ) (others rest : List Entry) → 1 ≤ length others → list_all fits others ≡ true
    → list_all (λ (e : Entry). is_past with true q e.0) others ≡ true → nearest with true (others ++ rest) q ≡ first_of true others
first_up with q others rest some fit h =
    let p = λ (e : Entry). is_past with true q e.0 in
    let r = λ (e : Entry). is_past true true (edge true) e.0 in
    find-append p others rest
    ∙ or_found (find p others) (find p rest) (found_first p others some h)
    ∙ find_same p r others h (past_all true others fit)

pub first_down : (with : Bool) (q : ℕ) (rest others : List Entry) → 1 ≤ length others → list_all fits others ≡ true
    → list_all (λ (e : Entry). is_past with false q e.0) others ≡ true → nearest with false (rest ++ others) q ≡ first_of false others
first_down with q rest others some fit h =
    let p = λ (e : Entry). is_past with false q e.0 in
    let r = λ (e : Entry). is_past true false (edge false) e.0 in
    find_down p rest others
    ∙ or_found (find p (reverse others)) (find p (reverse rest)) (found_last p others some h)
    ∙ find_same_down p r others h (past_all false others fit)

-- ---- the value

pub value_within : (q : ℕ) (e1 first e3 : List Entry) → list_all (λ (e : Entry). not (e.0 == q)) e1 ≡ true → list_all (λ (e : Entry). not (e.0 == q)) e3 ≡ true
    → value_of (e1 ++ (first ++ e3)) q ≡ value_of first q
value_within q e1 first e3 h k =
    let p = λ (e : Entry). e.0 == q in
    ap (λ (o : Option Entry). option_map (λ (e : Entry). e.1) o) (
    find-append p e1 (first ++ e3)
    ∙ ap (λ (o : Option Entry). option_or o (find p (first ++ e3))) (find_none p e1 h)
    ∙ find-append p first e3
    ∙ ap (option_or (find p first)) (find_none p e3 k)
    ∙ or_nothing (find p first))

pub value_nowhere : (q : ℕ) (es : List Entry) → list_all (λ (e : Entry). not (e.0 == q)) es ≡ true → value_of es q ≡ None
value_nowhere q es h = ap (λ (o : Option Entry). option_map (λ (e : Entry). e.1) o) (find_none (λ (e : Entry). e.0 == q) es h)
