-- Two children one behind the other, and what takes their places.
use Rattle.std.proofs.Common.{◌≡◌, ℕ, zero, suc, ◌<◌, ◌≤◌, ◌+◌, ◌-◌, Bool, true, false, List, [], ◌∷◌, ◌++◌, length, take, drop, set, get_or, refl, sym, ap, ◌∙◌, subst, arith, ◌&&◌, append_assoc}
use Rattle.std.specs.Prelude.{Some, remove, slice_get, nat_lt}
use Rattle.std.specs.List.{list_all}
use Rattle.std.proofs.lemmas.Bool.{and_parts, and_from, ltb-true, lt-ltb}
use Rattle.std.proofs.lemmas.List.{drop_at, get_or_at, length-set, set_at, take_at}
use Rattle.std.proofs.lemmas.Option.{none-some, same_Some}
use Rattle.node_page.specs.Nodes.{Entry, rises}
use Rattle.btree_cow.specs.Causes.{IsAmong}
use Rattle.btree_cow.specs.Changes.{with_entry}
use Rattle.btree_cow.specs.Shrinking.{IsNeighbour, IsPair, led_to, with_joined}
use Rattle.btree_cow.specs.declared.grown.Grown.{Grown}
use Rattle.btree_cow.specs.declared.grown.Grown.TheVariants.{One, Two}
use Rattle.btree_cow.proofs.Finds.{all_so, all_both}
use Rattle.btree_cow.proofs.WithEntries.{is_over, is_under, over_more, with_between, with_rises, with_long}

-- ---- where entries behind others rise

false_right : (b : Bool) → (b && false) ≡ false
false_right true = refl
false_right false = refl

over_first : (x f : Entry) (later : List Entry) (b : Bool) → b ≡ nat_lt x.0 f.0 → rises (f ∷ later) ≡ true → b ≡ rises (x ∷ f ∷ later)
over_first x f later true is rise =
    let parts = and_parts (list_all (is_over f.0) later) (rises later) rise in
    let less : x.0 < f.0 = ltb-true x.0 f.0 (sym is) in
    sym (and_from (list_all (is_over x.0) (f ∷ later)) (rises (f ∷ later)) (and_from (is_over x.0 f) (list_all (is_over x.0) later) (sym is) (over_more x.0 f.0 later (omega arith) parts.0)) rise)
over_first x f later false is rise = ap (λ (b : Bool). (b && list_all (is_over x.0) later) && rises (f ∷ later)) is

over_next : (x y : Entry) (xs : List Entry) (b : Bool) → nat_lt x.0 y.0 ≡ true → b ≡ rises (y ∷ xs) → b ≡ rises (x ∷ y ∷ xs)
over_next x y xs true less is =
    let parts = and_parts (list_all (is_over y.0) xs) (rises xs) (sym is) in
    let more : x.0 < y.0 = ltb-true x.0 y.0 less in
    sym (and_from (list_all (is_over x.0) (y ∷ xs)) (rises (y ∷ xs)) (and_from (is_over x.0 y) (list_all (is_over x.0) xs) less (over_more x.0 y.0 xs (omega arith) parts.0)) (sym is))
over_next x y xs false less is = sym (false_right (list_all (is_over x.0) (y ∷ xs))) ∙ ap (λ (b : Bool). list_all (is_over x.0) (y ∷ xs) && b) is

ends_rise : (front back : List Entry) (l f : Entry) (n : ℕ) → n + 1 ≡ length front → slice_get front n ≡ Some l → slice_get back 0 ≡ Some f → rises front ≡ true → rises back ≡ true → nat_lt l.0 f.0 ≡ rises (front ++ back)
ends_rise [] back l f n long last first rise rise' = absurd (omega arith)
ends_rise (x ∷ xs) [] l f n long last first rise rise' = absurd (none-some f first)
ends_rise (x ∷ []) (y ∷ ys) l f zero long last first rise rise' =
    let one : x ≡ l = same_Some x l last in
    let two : y ≡ f = same_Some y f first in
    over_first x y ys (nat_lt l.0 f.0) (ap (λ (e : Entry). nat_lt e.0 f.0) (sym one) ∙ ap (λ (e : Entry). nat_lt x.0 e.0) (sym two)) rise'
ends_rise (x ∷ []) (y ∷ ys) l f (suc n) long last first rise rise' = absurd (omega arith)
ends_rise (x ∷ x' ∷ xs) (y ∷ ys) l f zero long last first rise rise' = absurd (omega arith)
ends_rise (x ∷ x' ∷ xs) (y ∷ ys) l f (suc n) long last first rise rise' =
    let parts = and_parts (list_all (is_over x.0) (x' ∷ xs)) (rises (x' ∷ xs)) rise in
    over_next x x' (xs ++ y ∷ ys) (nat_lt l.0 f.0) (and_parts (is_over x.0 x') (list_all (is_over x.0) xs) parts.0).0
    (ends_rise (x' ∷ xs) (y ∷ ys) l f n (omega arith) last first parts.1 rise')

pub follows : (front back : List Entry) (l f : Entry) → Some l ≡ slice_get front (length front - 1) → Some f ≡ slice_get back 0 → rises front ≡ true → rises back ≡ true → nat_lt l.0 f.0 ≡ rises (front ++ back)
follows [] back l f last first rise rise' = absurd (none-some l (sym last))
follows (x ∷ xs) back l f last first rise rise' = ends_rise (x ∷ xs) back l f (length (x ∷ xs) - 1) (omega arith) (sym last) (sym first) rise rise'

-- ---- children that are changed at a place

all_led : (k : ℕ) (xs : List Entry) (n block : ℕ) → list_all (is_over k) xs ≡ true → list_all (is_over k) (led_to xs n block) ≡ true
all_led k [] n block all = refl
all_led k (x ∷ xs) zero block all = all
all_led k (x ∷ xs) (suc n) block all =
    let parts = and_parts (is_over k x) (list_all (is_over k) xs) all in
    and_from (is_over k x) (list_all (is_over k) (led_to xs n block)) parts.0 (all_led k xs n block parts.1)

pub led_rises : (xs : List Entry) (n block : ℕ) → rises xs ≡ true → rises (led_to xs n block) ≡ true
led_rises [] n block rise = refl
led_rises (x ∷ xs) zero block rise = rise
led_rises (x ∷ xs) (suc n) block rise =
    let parts = and_parts (list_all (is_over x.0) xs) (rises xs) rise in
    and_from (list_all (is_over x.0) (led_to xs n block)) (rises (led_to xs n block)) (all_led x.0 xs n block parts.0) (led_rises xs n block parts.1)

all_removed : (p : Entry → Bool) (xs : List Entry) (n : ℕ) → list_all p xs ≡ true → list_all p (remove xs n) ≡ true
all_removed p [] zero all = refl
all_removed p [] (suc n) all = refl
all_removed p (x ∷ xs) zero all = (and_parts (p x) (list_all p xs) all).1
all_removed p (x ∷ xs) (suc n) all =
    let parts = and_parts (p x) (list_all p xs) all in
    and_from (p x) (list_all p (remove xs n)) parts.0 (all_removed p xs n parts.1)

pub remove_rises : (xs : List Entry) (n : ℕ) → rises xs ≡ true → rises (remove xs n) ≡ true
remove_rises [] zero rise = refl
remove_rises [] (suc n) rise = refl
remove_rises (x ∷ xs) zero rise = (and_parts (list_all (is_over x.0) xs) (rises xs) rise).1
remove_rises (x ∷ xs) (suc n) rise =
    let parts = and_parts (list_all (is_over x.0) xs) (rises xs) rise in
    and_from (list_all (is_over x.0) (remove xs n)) (rises (remove xs n)) (all_removed (is_over x.0) xs n parts.0) (remove_rises xs n parts.1)

pub pair_rises : (xs : List Entry) (n : ℕ) (grown : Grown) → rises xs ≡ true → rises (with_joined xs n grown) ≡ true
pair_rises xs n (One block) rise = remove_rises (led_to xs n block) (n + 1) (led_rises xs n block rise)
pair_rises xs n (Two left right) rise = with_rises (remove (led_to xs n left.1) (n + 1)) right.0 right.1 (remove_rises (led_to xs n left.1) (n + 1) (led_rises xs n left.1 rise))

remove_short : (xs : List Entry) (n : ℕ) → n < length xs → length (remove xs n) + 1 ≡ length xs
remove_short [] n less = absurd (omega arith)
remove_short (x ∷ xs) zero less = omega arith
remove_short (x ∷ xs) (suc n) less = omega (arith, remove_short xs n (omega arith))

pub length_led : (xs : List Entry) (n block : ℕ) → length (led_to xs n block) ≡ length xs
length_led xs n block = length-set xs n ((get_or xs n (0, 0)).0, block)

pub pair_short : (xs : List Entry) (n : ℕ) (grown : Grown) → n + 1 < length xs → length (with_joined xs n grown) ≤ length xs
pair_short xs n (One block) less = omega (arith, remove_short (led_to xs n block) (n + 1) (omega (arith, length_led xs n block)), length_led xs n block)
pair_short xs n (Two left right) less =
    omega (arith, remove_short (led_to xs n left.1) (n + 1) (omega (arith, length_led xs n left.1)), length_led xs n left.1, (with_long (remove (led_to xs n left.1) (n + 1)) right.0 right.1).1)

-- ---- the same, between the children in front and behind

-- what became of a child, in front of others
abbrev pub put_in : ℕ → Grown → List Entry → List Entry
put_in chunk (One block) back = (chunk, block) ∷ back
put_in chunk (Two left right) back = (chunk, left.1) ∷ right ∷ back

pub led_at : (front : List Entry) (chosen : Entry) (back : List Entry) (n block : ℕ) → length front ≡ n → led_to (front ++ chosen ∷ back) n block ≡ front ++ (chosen.0, block) ∷ back
led_at front chosen back n block here =
    ap (λ (e : Entry). set (front ++ chosen ∷ back) n (e.0, block)) (get_or_at front chosen back (0, 0) n here)
    ∙ set_at front chosen back (chosen.0, block) n here

remove_next : (front : List Entry) (x y : Entry) (back : List Entry) → remove (front ++ x ∷ y ∷ back) (suc (length front)) ≡ front ++ x ∷ back
remove_next [] x y back = refl
remove_next (f ∷ front) x y back = ap (λ (l : List Entry). f ∷ l) (remove_next front x y back)

remove_at : (front : List Entry) (x y : Entry) (back : List Entry) (n : ℕ) → length front ≡ n → remove (front ++ x ∷ y ∷ back) (n + 1) ≡ front ++ x ∷ back
remove_at front x y back n here =
    let next : n + 1 ≡ suc (length front) = omega (arith, here) in
    ap (λ (k : ℕ). remove (front ++ x ∷ y ∷ back) k) next ∙ remove_next front x y back

-- what two nodes ask of the chunks around them
abbrev pub FitsIn : ℕ → Grown → List Entry → Type 0
FitsIn chunk (One block) back = Unit {0}
FitsIn chunk (Two left right) back = (chunk < right.0) × (list_all (is_over right.0) back ≡ true)

pub joined_at : (front : List Entry) (left right : Entry) (back : List Entry) (n : ℕ) (grown : Grown) → length front ≡ n → list_all (is_under left.0) front ≡ true → FitsIn left.0 grown back
    → with_joined (front ++ left ∷ right ∷ back) n grown ≡ front ++ put_in left.0 grown back
joined_at front left right back n (One block) here under fits =
    ap (λ (l : List Entry). remove l (n + 1)) (led_at front left (right ∷ back) n block here) ∙ remove_at front (left.0, block) right back n here
joined_at front left right back n (Two one two) here under fits =
    let first : Entry = (left.0, one.1) in
    let all : list_all (is_under two.0) (front ++ first ∷ []) ≡ true =
    all_both (is_under two.0) front (first ∷ []) (all_so (is_under left.0) (is_under two.0) (λ e l. let lower : e.0 < left.0 = ltb-true e.0 left.0 l in lt-ltb e.0 two.0 (omega (arith, fits.0))) front under)
    (and_from (is_under two.0 first) true (lt-ltb left.0 two.0 fits.0) refl) in
    ap (λ (l : List Entry). with_entry (remove l (n + 1)) two.0 two.1) (led_at front left (right ∷ back) n one.1 here)
    ∙ ap (λ (l : List Entry). with_entry l two.0 two.1) (remove_at front first right back n here ∙ sym (append_assoc front (first ∷ []) back))
    ∙ with_between (front ++ first ∷ []) back two.0 two.1 all fits.1
    ∙ append_assoc front (first ∷ []) (two ∷ back)

-- ---- one list split at one place

pub same_split : (a b : List Entry) (x y : Entry) (s t : List Entry) → a ++ x ∷ s ≡ b ++ y ∷ t → length a ≡ length b → (a ≡ b) × (x ≡ y) × (s ≡ t)
same_split a b x y s t same long =
    let fronts : a ≡ b = sym (take_at a (x ∷ s) (length b) long) ∙ ap (λ (l : List Entry). take (length b) l) same ∙ take_at b (y ∷ t) (length b) refl in
    let backs : x ∷ s ≡ y ∷ t = sym (drop_at a (x ∷ s) (length b) long) ∙ ap (λ (l : List Entry). drop (length b) l) same ∙ drop_at b (y ∷ t) (length b) refl in
    (fronts, ap (λ (l : List Entry). get_or l 0 x) backs, ap (λ (l : List Entry). drop 1 l) backs)

-- ---- neighbours

pair_more : (x : Entry) (xs : List Entry) (n : ℕ) (left right : Entry) → IsPair xs n left right → IsPair (x ∷ xs) (suc n) left right
pair_more x xs n left right p = record { front = x ∷ p.front; back = p.back; split = ap (λ (l : List Entry). x ∷ l) p.split; here = ap (λ (k : ℕ). suc k) p.here }

pair_from : (xs : List Entry) (n : ℕ) (d : Entry) → n + 1 < length xs → IsPair xs n (get_or xs n d) (get_or xs (suc n) d)
pair_from [] n d less = absurd (omega arith)
pair_from (x ∷ []) n d less = absurd (omega arith)
pair_from (x ∷ y ∷ xs) zero d less = record { front = []; back = xs; split = refl; here = refl }
pair_from (x ∷ y ∷ xs) (suc n) d less = pair_more x (y ∷ xs) n (get_or (y ∷ xs) n d) (get_or (y ∷ xs) (suc n) d) (pair_from (y ∷ xs) n d (omega arith))

next_one : (n : ℕ) → suc n ≡ n + 1
next_one n = omega arith

pub neighbour_behind : (xs : List Entry) (n : ℕ) → n + 1 < length xs → IsNeighbour xs n false (get_or xs (n + 1) (0, 0)).1
neighbour_behind xs n less = (get_or xs n (0, 0), get_or xs (suc n) (0, 0), pair_from xs n (0, 0) less, ap (λ (k : ℕ). (get_or xs k (0, 0)).1) (next_one n))

pub neighbour_before : (xs : List Entry) (n : ℕ) → n < length xs → 0 < n → IsNeighbour xs n true (get_or xs (n - 1) (0, 0)).1
neighbour_before xs zero less some = absurd (omega arith)
neighbour_before xs (suc n) less some =
    let same : n ≡ suc n - 1 = omega arith in
    subst (λ (k : ℕ). IsNeighbour xs (suc n) true (get_or xs k (0, 0)).1) same (n, omega arith, get_or xs n (0, 0), get_or xs (suc n) (0, 0), pair_from xs n (0, 0) (omega arith), refl)

pair_among : (xs : List Entry) (n : ℕ) (left right : Entry) → IsPair xs n left right → IsAmong left xs × IsAmong right xs
pair_among xs n left right p =
    ((length p.front, ap (λ (l : List Entry). slice_get l (length p.front)) p.split ∙ first p.front), (suc (length p.front), ap (λ (l : List Entry). slice_get l (suc (length p.front))) p.split ∙ second p.front))
  where
    first : (front : List Entry) → slice_get (front ++ left ∷ right ∷ p.back) (length front) ≡ Some left
    first [] = refl
    first (x ∷ front) = first front

    second : (front : List Entry) → slice_get (front ++ left ∷ right ∷ p.back) (suc (length front)) ≡ Some right
    second [] = refl
    second (x ∷ front) = second front

pub neighbour_among : (xs : List Entry) (n : ℕ) (in_front : Bool) (block : ℕ) → IsNeighbour xs n in_front block → (c : Entry) × IsAmong c xs × (c.1 ≡ block)
neighbour_among xs n true block is = (is.2, (pair_among xs is.0 is.2 is.3 is.4).0, is.5)
neighbour_among xs n false block is = (is.1, (pair_among xs n is.0 is.1 is.2).1, is.3)
