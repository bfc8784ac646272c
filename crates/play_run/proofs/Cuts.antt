-- A script is cut into its lines in one way.
use Rattle.std.proofs.Common.{◌≡◌, ◌≢◌, ℕ, List, [], ◌∷◌, ◌++◌, length, refl, sym, ap, subst, ◌∙◌, arith, append_assoc, append-nil}
use Rattle.std.specs.List.{AllByRecursion}
use Rattle.std.proofs.lemmas.List.{append_cancel_right}
use Rattle.forest_model.specs.declared.line.Line.{Line}
use Rattle.play_run.specs.Script.{IsText, IsTaken, AreTaken, IsBad, ended, last_line}

head : ℕ → List ℕ → ℕ
head d [] = d
head d (x ∷ xs) = x

tail : List ℕ → List ℕ
tail [] = []
tail (x ∷ xs) = xs

same_head : (x y : ℕ) (xs ys : List ℕ) → x ∷ xs ≡ y ∷ ys → x ≡ y
unfolding head
same_head x y xs ys e = ap (head 0) e

same_tail : (x y : ℕ) (xs ys : List ℕ) → x ∷ xs ≡ y ∷ ys → xs ≡ ys
unfolding tail
same_tail x y xs ys e = ap tail e

-- up to the first newline
first_newline : (a b x y : List ℕ) → IsText a → IsText b → a ++ 10 ∷ x ≡ b ++ 10 ∷ y → (a ≡ b) × (x ≡ y)
first_newline [] [] x y p q e = (refl, same_tail 10 10 x y e)
first_newline [] (c ∷ b) x y p q e = absurd (q.0 (sym (same_head 10 c x (b ++ 10 ∷ y) e)))
first_newline (c ∷ a) [] x y p q e = absurd (p.0 (same_head c 10 (a ++ 10 ∷ x) y e))
first_newline (c ∷ a) (d ∷ b) x y p q e =
    let rest = first_newline a b x y p.1 q.1 (same_tail c d (a ++ 10 ∷ x) (b ++ 10 ∷ y) e) in
    (λ i. same_head c d (a ++ 10 ∷ x) (b ++ 10 ∷ y) e i ∷ rest.0 i, rest.1)

-- a text has no newline
no_newline_in : (a b x : List ℕ) → IsText a → a ≡ b ++ 10 ∷ x → ⊥
no_newline_in [] [] x p e = absurd (omega (arith, ap length e))
no_newline_in [] (c ∷ b) x p e = absurd (omega (arith, ap length e))
no_newline_in (c ∷ a) [] x p e = p.0 (same_head c 10 a x e)
no_newline_in (c ∷ a) (d ∷ b) x p e = no_newline_in a b x p.1 (same_tail c d a (b ++ 10 ∷ x) e)

-- lines that are taken, one by one
abbrev pub AreGood : List (List ℕ) → Type 0
AreGood texts = AllByRecursion (λ t. ((line : Line) × IsTaken line t) × IsText t) texts

pub good_texts : (lines : List Line) (texts more : List (List ℕ)) → AreTaken lines (texts ++ more) → AreGood texts
good_texts lines [] more h = tt
good_texts [] (t ∷ texts) more h = absurd h
good_texts (l ∷ lines) (t ∷ texts) more h = (((l, h.0), h.1), good_texts lines texts more h.2)

pub good_last : (lines : List Line) (texts : List (List ℕ)) (text : List ℕ) → AreTaken lines (texts ++ text ∷ []) → (line : Line) × IsTaken line text
good_last [] [] text h = absurd h
good_last (l ∷ lines) [] text h = (l, h.0)
good_last [] (t ∷ texts) text h = absurd h
good_last (l ∷ lines) (t ∷ texts) text h = good_last lines texts text h.2

are_texts : (texts : List (List ℕ)) → AreGood texts → AllByRecursion IsText texts
are_texts [] h = tt
are_texts (t ∷ texts) h = (h.0.1, are_texts texts h.1)

pub taken_texts : (lines : List Line) (texts : List (List ℕ)) → AreTaken lines texts → AllByRecursion IsText texts
taken_texts lines texts h = are_texts texts (good_texts lines texts [] (subst (AreTaken lines) (sym (append-nil texts)) h))

-- among good lines stands no bad one
pub no_bad_line : (texts others : List (List ℕ)) (rest bad more : List ℕ) → AreGood texts → IsText rest → AllByRecursion IsText others → IsText bad → IsBad bad
    → ended texts ++ rest ≡ ended others ++ (bad ++ 10 ∷ more) → ⊥
no_bad_line [] others rest bad more good plain texts b is_bad e = no_newline_in rest (ended others ++ bad) more plain (e ∙ sym (append_assoc (ended others) bad (10 ∷ more)))
no_bad_line (t ∷ texts) [] rest bad more good plain others b is_bad e =
    let same = first_newline t bad (ended texts ++ rest) more good.0.1 b (sym (append_assoc t (10 ∷ ended texts) rest) ∙ e) in
    is_bad good.0.0.0 (subst (IsTaken good.0.0.0) same.0 good.0.0.1)
no_bad_line (t ∷ texts) (u ∷ others) rest bad more good plain are b is_bad e =
    let same = first_newline t u (ended texts ++ rest) (ended others ++ (bad ++ 10 ∷ more)) good.0.1 are.0
    (sym (append_assoc t (10 ∷ ended texts) rest) ∙ e ∙ append_assoc u (10 ∷ ended others) (bad ++ 10 ∷ more)) in
    no_bad_line texts others rest bad more good.1 plain are.1 b is_bad same.1

last_taken : (lines : List Line) (rest : List ℕ) → rest ≢ [] → AreTaken lines (last_line rest) → (line : Line) × IsTaken line rest
last_taken lines [] some h = absurd (some refl)
last_taken [] (b ∷ rest) some h = absurd h
last_taken (l ∷ lines) (b ∷ rest) some h = (l, h.0)

-- and none behind them
pub no_bad_end : (lines : List Line) (texts others : List (List ℕ)) (rest bad : List ℕ) → AreTaken lines (texts ++ last_line rest) → IsText rest → AllByRecursion IsText others → IsText bad → IsBad bad → bad ≢ []
    → ended texts ++ rest ≡ ended others ++ bad → ⊥
no_bad_end lines [] [] rest bad taken plain are b is_bad some e =
    let last = last_taken lines rest (λ none. some (sym e ∙ none)) taken in
    is_bad last.0 (subst (IsTaken last.0) e last.1)
no_bad_end lines [] (u ∷ others) rest bad taken plain are b is_bad some e = no_newline_in rest u (ended others ++ bad) plain (e ∙ append_assoc u (10 ∷ ended others) bad)
no_bad_end [] (t ∷ texts) others rest bad taken plain are b is_bad some e = absurd taken
no_bad_end (l ∷ lines) (t ∷ texts) [] rest bad taken plain are b is_bad some e = no_newline_in bad t (ended texts ++ rest) b (sym e ∙ append_assoc t (10 ∷ ended texts) rest)
no_bad_end (l ∷ lines) (t ∷ texts) (u ∷ others) rest bad taken plain are b is_bad some e =
    let same = first_newline t u (ended texts ++ rest) (ended others ++ bad) taken.1 are.0 (sym (append_assoc t (10 ∷ ended texts) rest) ∙ e ∙ append_assoc u (10 ∷ ended others) bad) in
    no_bad_end lines texts others rest bad taken.2 plain are.1 b is_bad some same.1

-- what was taken is what was had, but for what is left
pub same_taken : (script left a b : List ℕ) → script ≡ a ++ left → script ≡ b ++ left → a ≡ b
same_taken script left a b p q = append_cancel_right a b left (sym p ∙ q)
