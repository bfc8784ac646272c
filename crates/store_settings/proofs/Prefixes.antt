-- Words that were read, and those behind them.
use Rattle.std.proofs.Common.{◌≡◌, ℕ, ◌+◌, ◌-◌, ◌<◌, ◌≤◌, List, [], ◌∷◌, ◌++◌, length, get_or, take, drop, map, zero, suc, refl, sym, ap, subst, ◌∙◌, Option, Some, None, Result, Err, arith}
use Rattle.std.specs.Prelude.{option_and_then, option_map, IfOk, IsOkAnd}
use Rattle.std.specs.Option.{ok_or}
use Rattle.std.proofs.lemmas.List.{take_rest, take_all, take-append-drop, append-nil}
use Rattle.store_settings.specs.Profile.{Text, Request, AskFor, AreWords, request_of}
use Rattle.store_settings.specs.Reading.{State, read, read_all, step, end, start, command_of}
use Rattle.store_settings.specs.declared.words.Command.{Command}
use Rattle.store_settings.specs.declared.words.Asked.{Asked}
use Rattle.store_settings.specs.declared.words.Usage.{Usage}
use Rattle.store_settings.specs.declared.words.Usage.TheVariants.{Missing, Word}
use Rattle.store_settings.proofs.Exact.{read_if, read_only_if}

-- ---- lists

-- the first item and the others
pub split_first : {A B : Type 0} (f : A → B) (xs : List A) (x : A) → 1 ≤ length xs → x ≡ get_or xs 0 x → map f xs ≡ f x ∷ map f (take (length xs - 1) (drop 1 xs))
split_first f [] x full is = absurd (omega (arith, full))
split_first f (y ∷ ys) x full is = ap (λ z. f z ∷ map f ys) (sym is) ∙ ap (λ zs. f x ∷ map f zs) (sym (take_rest (y ∷ ys) 1))

-- one item more
pub take_next : {A B : Type 0} (f : A → B) (xs : List A) (i : ℕ) (x : A) (more : List B) → i < length xs → x ≡ get_or xs i x
    → take (i + 1) (map f xs) ++ more ≡ take i (map f xs) ++ (f x ∷ more)
take_next {A = A} f xs i x more lt is =
    let e : i + 1 ≡ suc i = omega arith in
    ap (λ n. take n (map f xs) ++ more) e ∙ by_place xs i lt is
  where
    by_place : (xs : List A) (i : ℕ) → i < length xs → x ≡ get_or xs i x → take (suc i) (map f xs) ++ more ≡ take i (map f xs) ++ (f x ∷ more)
    by_place [] i lt is = absurd (omega (arith, lt))
    by_place (y ∷ ys) zero lt is = ap (λ z. f z ∷ more) (sym is)
    by_place (y ∷ ys) (suc i) lt is = let less : i < length ys = omega (arith, lt) in ap (λ zs. f y ∷ zs) (by_place ys i less is)

pub take_whole : {A B : Type 0} (f : A → B) (xs : List A) (i : ℕ) → length (map f xs) ≤ i → take i (map f xs) ++ [] ≡ map f xs
take_whole f xs i le = append-nil (take i (map f xs)) ∙ take_all i (map f xs) le

-- ---- reading

pub read_nil : (s : State) → read s [] ≡ end s
unfolding read
read_nil s = refl

pub read_some : (s t : State) (w : Text) (ws : List Text) → step s w ≡ Some t → read s (w ∷ ws) ≡ read t ws
unfolding read
read_some s t w ws e = ap (option_and_then (λ u. read u ws)) e

pub read_none : (s : State) (w : Text) (ws : List Text) → step s w ≡ None → read s (w ∷ ws) ≡ None
unfolding read
read_none s w ws e = ap (option_and_then (λ u. read u ws)) e

pub all_of_command : (w : Text) (ws : List Text) (c : Command) → command_of w ≡ Some c → read_all (w ∷ ws) ≡ read (start c) ws
all_of_command w ws c e = ap (option_and_then (λ d. read (start d) ws)) e

-- ---- what the call answers

pub asked_taken : (o : Option Asked) (ws : List Text) → option_map request_of o ≡ read_all ws → IfOk (ok_or o Missing) (λ a. AskFor ws (request_of a))
asked_taken None ws e = tt
asked_taken (Some a) ws e = read_only_if ws (request_of a) (sym e)

pub asked_all : (o : Option Asked) (ws : List Text) → option_map request_of o ≡ read_all ws → (r : Request) → AskFor ws r → IsOkAnd (ok_or o Missing) (λ a. request_of a ≡ r)
asked_all None ws e r ask = absurd (let bad : None ≡ Some r = e ∙ read_if ws r ask in cc)
asked_all (Some a) ws e r ask = let same : Some (request_of a) ≡ Some r = e ∙ read_if ws r ask in cc

pub not_asked : (ws : List Text) (r : Request) → read_all ws ≡ None → AskFor ws r → ⊥
not_asked ws r e ask = let bad : None ≡ Some r = sym e ∙ read_if ws r ask in cc

-- a word that can't stand where it does
pub none_whole : (s : State) (ws : List Text) (n : ℕ) → ((more : List Text) → read s (take n ws ++ more) ≡ None) → read s ws ≡ None
none_whole s ws n h = ap (read s) (sym (take-append-drop n ws)) ∙ h (drop n ws)

pub none_taken : (w : Text) (ws : List Text) (c : Command) (n : ℕ) → command_of w ≡ Some c → ((more : List Text) → read (start c) (take n ws ++ more) ≡ None)
    → (more : List Text) → AreWords (take (n + 1) (w ∷ ws) ++ more) → ⊥
none_taken w ws c n is h more are =
    let e : n + 1 ≡ suc n = omega arith in
    let all : read_all (take (n + 1) (w ∷ ws) ++ more) ≡ None = ap (λ k. read_all (take k (w ∷ ws) ++ more)) e ∙ (all_of_command w (take n ws ++ more) c is ∙ h more) in
    not_asked _ are.0 all are.1

pub bumped : (m n : ℕ) → ◌≡◌ {A = Result Asked Usage} (Err (Word m)) (Err (Word n)) → m ≡ n
bumped m n e = cc

pub rest_length : {A : Type 0} (xs : List A) (i : ℕ) → 1 ≤ length xs → i < length (take (length xs - 1) (drop 1 xs)) → i + 1 < length xs
rest_length [] i full less = absurd (omega (arith, full))
rest_length {A = A} (y ∷ ys) i full less = let shorter = subst (λ (zs : List A). i < length zs) (take_rest (y ∷ ys) 1) less in omega (arith, shorter)
