-- What a word looks like, by cases.
use Rattle.std.proofs.Common.{◌≡◌, ℕ, eqb, true, false, cond, Bool, [], ◌∷◌, ◌++◌, nat_eq, refl, Option, Some, None, codes}
use Rattle.std.specs.Cmp.Lexicographic.{pointwise}
use Rattle.std.proofs.lemmas.Bool.{eqb-true}
use Rattle.store_settings.specs.Profile.{Text, is_plain}
use Rattle.store_settings.specs.Reading.{Look, look_of, dashes, memory, max, max_is, stray, plain, joined_or, behind_of, plain_or_stray}
use Rattle.store_settings.proofs.Texts.{same_list}

pub look_dashes : (w : Text) → pointwise nat_eq w (codes "--") ≡ true → dashes ≡ look_of w
unfolding look_of
look_dashes w e = rw e refl

pub look_memory : (w : Text) → pointwise nat_eq w (codes "--") ≡ false → pointwise nat_eq w (codes "--memory") ≡ true → memory ≡ look_of w
unfolding look_of
look_memory w a e = rw (a, e) refl

pub look_max : (w : Text) → pointwise nat_eq w (codes "--") ≡ false → pointwise nat_eq w (codes "--memory") ≡ false → pointwise nat_eq w (codes "--max") ≡ true → max ≡ look_of w
unfolding look_of
look_max w a b e = rw (a, b, e) refl

pub look_joined : (w : Text) → pointwise nat_eq w (codes "--") ≡ false → pointwise nat_eq w (codes "--memory") ≡ false → pointwise nat_eq w (codes "--max") ≡ false
    → joined_or (behind_of (codes "--max=") w) (plain_or_stray w) ≡ look_of w
unfolding look_of
look_joined w a b e = rw (a, b, e) refl

-- ---- from words to looks

pub dashes_look : look_of (codes "--") ≡ dashes
unfolding look_of
dashes_look = refl

pub memory_look : look_of (codes "--memory") ≡ memory
unfolding look_of
memory_look = refl

pub max_look : look_of (codes "--max") ≡ max
unfolding look_of
max_look = refl

pub joined_look : (v : Text) → look_of (codes "--max=" ++ v) ≡ max_is v
unfolding look_of
joined_look v = refl

pub plain_look : (w : Text) → is_plain w ≡ true → look_of w ≡ plain
unfolding look_of
plain_look [] e = absurd cc
plain_look (b ∷ rest) e = by_first (eqb b 45) refl
  where
    by_first : (t : Bool) → eqb b 45 ≡ t → look_of (b ∷ rest) ≡ plain
    by_first true is = absurd cc
    by_first false is = rw is refl

-- ---- from looks to words

behind_next : (b c : ℕ) (start w v : Text) → (behind_of start w ≡ Some v → w ≡ start ++ v) → (t : Bool) → eqb c b ≡ t → cond t (behind_of start w) None ≡ Some v → c ∷ w ≡ (b ∷ start) ++ v
behind_next b c start w v ih true is e = let first = eqb-true c b is in let rest = ih e in cc
behind_next b c start w v ih false is e = absurd cc

behind_is : (start w v : Text) → behind_of start w ≡ Some v → w ≡ start ++ v
behind_is [] w v e = cc
behind_is (b ∷ start) [] v e = absurd cc
behind_is (b ∷ start) (c ∷ w) v e = behind_next b c start w v (behind_is start w v) (eqb c b) refl e

-- what a word is that has this look
abbrev pub Is : Look → Text → Type 0
Is dashes w = w ≡ codes "--"
Is memory w = w ≡ codes "--memory"
Is max w = w ≡ codes "--max"
Is (max_is v) w = w ≡ codes "--max=" ++ v
Is stray w = Unit
Is plain w = is_plain w ≡ true

choose : (t : Bool) (x y : Look) (w : Text) → (t ≡ true → Is x w) → (t ≡ false → Is y w) → Is (cond t x y) w
choose true x y w yes-is no-is = yes-is refl
choose false x y w yes-is no-is = no-is refl

plain_is : (w : Text) → Is (plain_or_stray w) w
plain_is [] = tt
plain_is (b ∷ rest) = choose (eqb b 45) stray plain (b ∷ rest) (λ _. tt) (λ e. rw e refl)

joined_is : (w : Text) (o : Option Text) → behind_of (codes "--max=") w ≡ o → Is (joined_or o (plain_or_stray w)) w
joined_is w None e = plain_is w
joined_is w (Some v) e = behind_is (codes "--max=") w v e

pub look_is : (w : Text) → Is (look_of w) w
unfolding look_of
look_is w =
    choose _ _ _ w (same_list w (codes "--")) (λ a. choose _ _ _ w (same_list w (codes "--memory"))
    (λ b. choose _ _ _ w (same_list w (codes "--max")) (λ d. joined_is w (behind_of (codes "--max=") w) refl)))
