-- A line is read from its text, and from no other.
use Rattle.std.proofs.Common.{◌≡◌, ℕ, Bool, List, [], ◌∷◌, ◌++◌, Option, Some, None, refl, sym, ap, subst, ◌∙◌, arith}
use Rattle.std.specs.Fmt.{decimal}
use Rattle.std.proofs.lemmas.List.{append-nil}
use Rattle.forest_model.specs.declared.line.Line.{Line}
use Rattle.script_text.specs.declared.unread.Unread.{Unread}
use Rattle.script_text.specs.declared.unread.Unread.TheVariants as unread
use Rattle.script_text.specs.Words.{joined}
use Rattle.script_text.specs.Grammar.{verb_words, line_words, spelling, IsRight, IsLine}
use Rattle.script_text.specs.Reading.{◌>>=◌, Fails, words_in, end_at, lane_at, verb_at, line_at}
use Rattle.script_text.proofs.Options.{bind_some, some_is}
use Rattle.script_text.proofs.Splitting.{IsWord-decimal, joined-words_in, words_in-joined}
use Rattle.script_text.proofs.Cleanness.{verb_are_words}
use Rattle.script_text.proofs.Fields.{end_takes, end_again, lane_takes, lane_again}
use Rattle.script_text.proofs.Verbs.{verb_takes, verb_again}

-- ---- words

line_takes : (server : Bool) (ws : List (List ℕ)) (x : Line × List (List ℕ)) → line_at server ws ≡ Some x → IsRight server x.0 × (ws ≡ line_words x.0)
unfolding line_at
line_takes server ws x e =
    let a = bind_some (lane_at ws) (λ lane. verb_at server lane.1 >>= λ asked. end_at asked.1 >>= λ ended. Some (record { lane = lane.0; verb = asked.0 }, ended.1)) x e in
    let b = bind_some (verb_at server a.0.1) (λ asked. end_at asked.1 >>= λ ended. Some (record { lane = a.0.0; verb = asked.0 }, ended.1)) x a.2 in
    let c = bind_some (end_at b.0.1) (λ ended. Some (record { lane = a.0.0; verb = b.0.0 }, ended.1)) x b.2 in
    let s = lane_takes ws a.0 a.1 in
    let t = verb_takes server a.0.1 b.0 b.1 in
    let made : Line × List (List ℕ) = (record { lane = a.0.0; verb = b.0.0 }, c.0.1) in
    let words : a.0.1 ≡ verb_words b.0.0 = t.parts ∙ ap (λ (r : List (List ℕ)). verb_words b.0.0 ++ r) (end_takes b.0.1 c.0 c.1) ∙ append-nil (verb_words b.0.0) in
    subst (λ (y : Line × List (List ℕ)). IsRight server y.0 × (ws ≡ line_words y.0)) (some_is made x c.2)
    ((s.small, t.right), s.parts ∙ ap (λ (r : List (List ℕ)). decimal a.0.0 ∷ r) words)

line_again : (server : Bool) (line : Line) → IsRight server line → line_at server (line_words line) ≡ Some (line, [])
unfolding line_at
line_again server line right = rw (lane_again line.lane (verb_words line.verb) right.0, verb_again server line.verb right.1, end_again) refl

-- ---- texts

words_in-spelling : (server : Bool) (line : Line) → IsRight server line → words_in (spelling line) ≡ line_words line
words_in-spelling server line right =
    words_in-joined (decimal line.lane) (verb_words line.verb) (IsWord-decimal line.lane (omega (arith, right.0))) (verb_are_words server line.verb right.1)

-- a text that is read is the line's
pub text_takes_line : (server : Bool) (text : List ℕ) (x : Line × List (List ℕ)) → line_at server (words_in text) ≡ Some x → IsLine server x.0 text
text_takes_line server text x e =
    let t = line_takes server (words_in text) x e in
    (t.0, sym (joined-words_in text) ∙ ap joined t.1)

-- a line's text is read as this line
pub text_again_line : (server : Bool) (line : Line) (text : List ℕ) → IsLine server line text → line_at server (words_in text) ≡ Some (line, [])
text_again_line server line text is =
    ap (λ (t : List ℕ). line_at server (words_in t)) is.1 ∙ ap (line_at server) (words_in-spelling server line is.0) ∙ line_again server line is.0

-- what a refusal to read says
pub none_read : {A : Type 0} (e : Unread) (read : Option A) → Fails e read → e ≡ unread.NotALine → read ≡ None
none_read unread.NoMemory read h e = absurd cc
none_read unread.NotALine read h e = h

-- ---- the laws

pub one_text : (server : Bool) (line : Line) (a b : List ℕ) → IsLine server line a → IsLine server line b → a ≡ b
one_text server line a b p q = p.1 ∙ sym q.1

pub one_line : (server : Bool) (a b : Line) (text : List ℕ) → IsLine server a text → IsLine server b text → a ≡ b
one_line server a b text p q =
    let first : Line × List (List ℕ) → Line = λ y. y.0 in
    ap first (some_is (a, []) (b, []) (sym (text_again_line server a text p) ∙ text_again_line server b text q))
