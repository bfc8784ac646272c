-- What a reader took from the front of the words, and that what was written is read again.
use Rattle.std.proofs.Common.{◌≡◌, ℕ, ◌<◌, ◌≤◌, ◌^◌, Bool, true, false, cond, eqb, nat_eq, nat_le, List, [], ◌∷◌, ◌++◌, length, Some, None, find, refl, sym, ap, subst, ◌∙◌, arith, ◌&&◌, inl, inr, codes}
use Rattle.std.specs.Cmp.Lexicographic.{pointwise}
use Rattle.std.specs.Fmt.{decimal}
use Rattle.std.proofs.lemmas.Bool.{and_parts, le-leb, leb-true}
use Rattle.script_text.specs.declared.keyword.Keyword.{Keyword}
use Rattle.script_text.specs.declared.keyword.Keyword.TheVariants as keyword
use Rattle.script_text.specs.Words.{word_of}
use Rattle.script_text.specs.Grammar.{AreBytes, IsCount, meta_words, direction}
use Rattle.script_text.specs.Reading.{◌>>=◌, word_at, none_left, end_at, keyword_name, keywords, keyword_of, keyword_at, bytes_of, text_at, number_of, number_at, count_at, lane_at, read_only_of, read_only_at, meta_at, direction_of, direction_at}
use Rattle.script_text.proofs.Options.{bind_some, guard_some, guard_not, chosen, some_is, none_is_not_some}
use Rattle.script_text.proofs.Spelled.{same_list}
use Rattle.script_text.proofs.TextWords as words
use Rattle.script_text.proofs.Decimals as numbers

-- ---- words

word_takes : (ws : List (List ℕ)) (x : List ℕ × List (List ℕ)) → word_at ws ≡ Some x → ws ≡ x.0 ∷ x.1
unfolding word_at
word_takes [] x e = absurd cc
word_takes (w ∷ ws) x e = ap (λ (p : List ℕ × List (List ℕ)). p.0 ∷ p.1) (some_is (w, ws) x e)

word_again : (w : List ℕ) (ws : List (List ℕ)) → word_at (w ∷ ws) ≡ Some (w, ws)
unfolding word_at
word_again w ws = refl

none_is : (ws : List (List ℕ)) → none_left ws ≡ true → ws ≡ []
unfolding none_left
none_is [] e = refl
none_is (w ∷ ws) e = absurd cc

pub none_again : none_left [] ≡ true
unfolding none_left
none_again = refl

pub some_again : (w : List ℕ) (ws : List (List ℕ)) → none_left (w ∷ ws) ≡ false
unfolding none_left
some_again w ws = refl

pub end_takes : (ws : List (List ℕ)) (x : Unit {0} × List (List ℕ)) → end_at ws ≡ Some x → ws ≡ []
unfolding end_at
end_takes ws x e = none_is ws (guard_some (none_left ws) (tt, ws) x e).0

pub end_again : end_at [] ≡ Some (tt, [])
unfolding end_at
end_again = rw none_again refl

-- ---- keywords

find_passes : {X : Type 0} (p : X → Bool) (xs : List X) (x : X) → find p xs ≡ Some x → p x ≡ true
find_passes p [] x e = absurd cc
find_passes p (y ∷ ys) x e =
    elim (chosen (p y) (Some y) (find p ys) x e) [
      | inl h ↦ ap p (sym (some_is y x h.1)) ∙ h.0
      | inr h ↦ find_passes p ys x h.1
    ]

pub keyword_takes : (ws : List (List ℕ)) (x : Keyword × List (List ℕ)) → keyword_at ws ≡ Some x → ws ≡ keyword_name x.0 ∷ x.1
unfolding keyword_at keyword_of
keyword_takes ws x e =
    let a = bind_some (word_at ws) (λ word. keyword_of word.0 >>= λ k. Some (k, word.1)) x e in
    let b = bind_some (keyword_of a.0.0) (λ k. Some (k, a.0.1)) x a.2 in
    let named : keyword_name b.0 ≡ a.0.0 = same_list (keyword_name b.0) a.0.0 (find_passes (λ k. pointwise nat_eq (keyword_name k) a.0.0) keywords b.0 b.1) in
    let made : Keyword × List (List ℕ) = (b.0, a.0.1) in
    subst (λ (y : Keyword × List (List ℕ)). ws ≡ keyword_name y.0 ∷ y.1) (some_is made x b.2) (word_takes ws a.0 a.1 ∙ ap (λ (w : List ℕ). w ∷ a.0.1) (sym named))

keyword_of-name : (k : Keyword) → keyword_of (keyword_name k) ≡ Some k
unfolding keyword_of keyword_name
keyword_of-name keyword.Use = refl
keyword_of-name keyword.Ro = refl
keyword_of-name keyword.Remove = refl
keyword_of-name keyword.Set = refl
keyword_of-name keyword.Del = refl
keyword_of-name keyword.Batch = refl
keyword_of-name keyword.Put = refl
keyword_of-name keyword.Get = refl
keyword_of-name keyword.BySeq = refl
keyword_of-name keyword.Commit = refl
keyword_of-name keyword.Markers = refl
keyword_of-name keyword.Rollback = refl
keyword_of-name keyword.Info = refl
keyword_of-name keyword.Snap = refl
keyword_of-name keyword.Latest = refl
keyword_of-name keyword.At = refl
keyword_of-name keyword.Close = refl
keyword_of-name keyword.Scan = refl
keyword_of-name keyword.Seqs = refl
keyword_of-name keyword.Up = refl
keyword_of-name keyword.Down = refl
keyword_of-name keyword.Compact = refl
keyword_of-name keyword.Begin = refl
keyword_of-name keyword.Copy = refl
keyword_of-name keyword.Delta = refl
keyword_of-name keyword.Switch = refl
keyword_of-name keyword.Cancel = refl

pub keyword_again : (k : Keyword) (ws : List (List ℕ)) → keyword_at (keyword_name k ∷ ws) ≡ Some (k, ws)
unfolding keyword_at
keyword_again k ws = rw (word_again, keyword_of-name k) refl

-- ---- text words

pub record TookText (ws : List (List ℕ)) (x : List ℕ × List (List ℕ)) : Type 0 where
  pub parts : ws ≡ word_of x.0 ∷ x.1
  pub small : AreBytes x.0

pub text_takes : (ws : List (List ℕ)) (x : List ℕ × List (List ℕ)) → text_at ws ≡ Some x → TookText ws x
unfolding text_at
text_takes ws x e =
    let a = bind_some (word_at ws) (λ word. bytes_of word.0 >>= λ t. Some (t, word.1)) x e in
    let b = bind_some (bytes_of a.0.0) (λ t. Some (t, a.0.1)) x a.2 in
    let t = words.word_takes a.0.0 b.0 b.1 in
    let made : List ℕ × List (List ℕ) = (b.0, a.0.1) in
    subst (λ (y : List ℕ × List (List ℕ)). TookText ws y) (some_is made x b.2) (record { parts = word_takes ws a.0 a.1 ∙ ap (λ (w : List ℕ). w ∷ a.0.1) t.parts; small = t.small })

pub text_again : (t : List ℕ) (ws : List (List ℕ)) → AreBytes t → text_at (word_of t ∷ ws) ≡ Some (t, ws)
unfolding text_at
text_again t ws small = rw (word_again, words.word_again t small) refl

-- ---- numbers

pub record TookNumber (ws : List (List ℕ)) (x : ℕ × List (List ℕ)) : Type 0 where
  pub parts : ws ≡ decimal x.0 ∷ x.1
  pub small : x.0 < 2 ^ 64

pub number_takes : (ws : List (List ℕ)) (x : ℕ × List (List ℕ)) → number_at ws ≡ Some x → TookNumber ws x
unfolding number_at
number_takes ws x e =
    let a = bind_some (word_at ws) (λ word. number_of word.0 >>= λ n. Some (n, word.1)) x e in
    let b = bind_some (number_of a.0.0) (λ n. Some (n, a.0.1)) x a.2 in
    let n = numbers.number_takes a.0.0 b.0 b.1 in
    let made : ℕ × List (List ℕ) = (b.0, a.0.1) in
    subst (λ (y : ℕ × List (List ℕ)). TookNumber ws y) (some_is made x b.2) (record { parts = word_takes ws a.0 a.1 ∙ ap (λ (w : List ℕ). w ∷ a.0.1) n.0; small = n.1 })

pub number_again : (n : ℕ) (ws : List (List ℕ)) → n < 2 ^ 64 → number_at (decimal n ∷ ws) ≡ Some (n, ws)
unfolding number_at
number_again n ws lt = rw (word_again, numbers.number_again (decimal n) n lt refl) refl

pub record TookCount (most : ℕ) (ws : List (List ℕ)) (x : ℕ × List (List ℕ)) : Type 0 where
  pub parts : ws ≡ decimal x.0 ∷ x.1
  pub within : IsCount most x.0

pub count_takes : (most : ℕ) (ws : List (List ℕ)) (x : ℕ × List (List ℕ)) → count_at most ws ≡ Some x → TookCount most ws x
unfolding count_at
count_takes most ws x e =
    let a = bind_some (number_at ws) (λ n. cond (nat_le 1 n.0 && nat_le n.0 most) (Some n) None) x e in
    let g = guard_some (nat_le 1 a.0.0 && nat_le a.0.0 most) a.0 x a.2 in
    let p = and_parts (nat_le 1 a.0.0) (nat_le a.0.0 most) g.0 in
    subst (λ (y : ℕ × List (List ℕ)). TookCount most ws y) g.1 (record { parts = (number_takes ws a.0 a.1).parts; within = (leb-true _ _ p.0, leb-true _ _ p.1) })

pub count_again : (most n : ℕ) (ws : List (List ℕ)) → most < 2 ^ 64 → IsCount most n → count_at most (decimal n ∷ ws) ≡ Some (n, ws)
unfolding count_at
count_again most n ws small within = rw (number_again n ws (omega arith), le-leb 1 n within.0, le-leb n most within.1) refl

pub record TookLane (ws : List (List ℕ)) (x : ℕ × List (List ℕ)) : Type 0 where
  pub parts : ws ≡ decimal x.0 ∷ x.1
  pub small : x.0 ≤ 15

pub lane_takes : (ws : List (List ℕ)) (x : ℕ × List (List ℕ)) → lane_at ws ≡ Some x → TookLane ws x
unfolding lane_at
lane_takes ws x e =
    let a = bind_some (number_at ws) (λ n. cond (nat_le n.0 15) (Some n) None) x e in
    let g = guard_some (nat_le a.0.0 15) a.0 x a.2 in
    subst (λ (y : ℕ × List (List ℕ)). TookLane ws y) g.1 (record { parts = (number_takes ws a.0 a.1).parts; small = leb-true _ _ g.0 })

pub lane_again : (n : ℕ) (ws : List (List ℕ)) → n ≤ 15 → lane_at (decimal n ∷ ws) ≡ Some (n, ws)
unfolding lane_at
lane_again n ws small = rw (number_again n ws (omega arith), le-leb n 15 small) refl

-- ---- what a line may end with

abbrev pub ro_words : Bool → List (List ℕ)
ro_words true = codes "ro" ∷ []
ro_words false = []

ro_takes : (k : Keyword) (ws : List (List ℕ)) (x : Bool × List (List ℕ)) → read_only_of k ws ≡ Some x → keyword_name k ∷ ws ≡ ro_words x.0 ++ x.1
unfolding read_only_of keyword_name
ro_takes keyword.Ro ws x e = ap (λ (y : Bool × List (List ℕ)). ro_words y.0 ++ y.1) (some_is (true, ws) x e)
ro_takes _ ws x e = absurd (none_is_not_some x e)

pub read_only_takes : (ws : List (List ℕ)) (x : Bool × List (List ℕ)) → read_only_at ws ≡ Some x → ws ≡ ro_words x.0 ++ x.1
unfolding read_only_at
read_only_takes ws x e =
    elim (chosen (none_left ws) (Some (false, ws)) (keyword_at ws >>= λ k. read_only_of k.0 k.1) x e) [
      | inl h ↦ ap (λ (y : Bool × List (List ℕ)). ro_words y.0 ++ y.1) (some_is (false, ws) x h.1)
      | inr h ↦
          let k = bind_some (keyword_at ws) (λ k. read_only_of k.0 k.1) x h.1 in
          keyword_takes ws k.0 k.1 ∙ ro_takes k.0.0 k.0.1 x k.2
    ]

pub read_only_again : (ro : Bool) → read_only_at (ro_words ro) ≡ Some (ro, [])
unfolding read_only_at read_only_of keyword_name
read_only_again false = rw none_again refl
read_only_again true = rw (some_again (codes "ro") [], ro_again) refl
  where
    ro_again : keyword_at (codes "ro" ∷ []) ≡ Some (keyword.Ro, [])
    ro_again = keyword_again keyword.Ro []

pub record TookMeta (ws : List (List ℕ)) (x : List ℕ × List (List ℕ)) : Type 0 where
  pub parts : ws ≡ meta_words x.0 ++ x.1
  pub small : AreBytes x.0

meta_is : (meta : List ℕ) → eqb (length meta) 0 ≡ false → word_of meta ∷ [] ≡ meta_words meta
unfolding meta_words
meta_is [] e = absurd cc
meta_is (b ∷ meta) e = refl

pub meta_takes : (ws : List (List ℕ)) (x : List ℕ × List (List ℕ)) → meta_at ws ≡ Some x → TookMeta ws x
unfolding meta_at meta_words
meta_takes ws x e =
    elim (chosen (none_left ws) (Some ([], ws)) (text_at ws >>= λ t. cond (eqb (length t.0) 0) None (Some t)) x e) [
      | inl h ↦ subst (λ (y : List ℕ × List (List ℕ)). TookMeta ws y) (some_is ([], ws) x h.1) (record { parts = refl; small = tt })
      | inr h ↦
          let a = bind_some (text_at ws) (λ t. cond (eqb (length t.0) 0) None (Some t)) x h.1 in
          let g = guard_not (eqb (length a.0.0) 0) a.0 x a.2 in
          let t = text_takes ws a.0 a.1 in
          subst (λ (y : List ℕ × List (List ℕ)). TookMeta ws y) g.1 (record { parts = t.parts ∙ ap (λ (r : List (List ℕ)). r ++ a.0.1) (meta_is a.0.0 g.0); small = t.small })
    ]

pub meta_again : (meta : List ℕ) → AreBytes meta → meta_at (meta_words meta) ≡ Some (meta, [])
unfolding meta_at meta_words
meta_again [] small = rw none_again refl
meta_again (b ∷ meta) small = rw (some_again (word_of (b ∷ meta)) [], text_again (b ∷ meta) [] small, words.some_length b meta) refl

-- ---- directions

way_takes : (k : Keyword) (ws : List (List ℕ)) (x : Bool × List (List ℕ)) → direction_of k ws ≡ Some x → keyword_name k ∷ ws ≡ direction x.0 ∷ x.1
unfolding direction_of keyword_name
way_takes keyword.Up ws x e = ap (λ (y : Bool × List (List ℕ)). direction y.0 ∷ y.1) (some_is (true, ws) x e)
way_takes keyword.Down ws x e = ap (λ (y : Bool × List (List ℕ)). direction y.0 ∷ y.1) (some_is (false, ws) x e)
way_takes _ ws x e = absurd (none_is_not_some x e)

pub direction_takes : (ws : List (List ℕ)) (x : Bool × List (List ℕ)) → direction_at ws ≡ Some x → ws ≡ direction x.0 ∷ x.1
unfolding direction_at
direction_takes ws x e =
    let k = bind_some (keyword_at ws) (λ k. direction_of k.0 k.1) x e in
    keyword_takes ws k.0 k.1 ∙ way_takes k.0.0 k.0.1 x k.2

pub direction_again : (up : Bool) (ws : List (List ℕ)) → direction_at (direction up ∷ ws) ≡ Some (up, ws)
unfolding direction_at direction_of keyword_name
direction_again true ws = rw (keyword_again keyword.Up ws) refl
direction_again false ws = rw (keyword_again keyword.Down ws) refl
