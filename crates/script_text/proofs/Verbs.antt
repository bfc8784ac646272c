-- What a reader of verbs took from the front of the words, and that what was written is read again.
use Rattle.std.proofs.Common.{◌≡◌, ℕ, zero, suc, ◌<◌, ◌≤◌, ◌^◌, Bool, true, false, not, cond, eqb, List, [], ◌∷◌, ◌++◌, length, Some, None, IsTrue, refl, sym, ap, subst, ◌∙◌, append_assoc, arith, lit<, inl, inr, codes}
use Rattle.std.specs.Fmt.{decimal}
use Rattle.std.specs.List.{flat_map, AllByRecursion}
use Rattle.std.proofs.lemmas.Bool.{ne_eqb}
use Rattle.forest_model.specs.declared.call.Item.{Item}
use Rattle.forest_model.specs.declared.call.Item.TheVariants as item
use Rattle.forest_model.specs.declared.line.Verb.{Verb}
use Rattle.forest_model.specs.declared.line.Verb.TheVariants as verb
use Rattle.script_text.specs.declared.keyword.Keyword.{Keyword}
use Rattle.script_text.specs.declared.keyword.Keyword.TheVariants as keyword
use Rattle.script_text.specs.Words.{word_of}
use Rattle.script_text.specs.Grammar.{AreBytes, IsCount, meta_words, item_words, direction, verb_words, IsRightItem, IsRightVerb}
use Rattle.script_text.specs.Reading.{◌>>=◌, none_left, keyword_name, keyword_at, text_at, number_at, count_at, read_only_at, meta_at, direction_at, put_at, del_at, item_of, item_at, items_at, use_at, set_at, batch_at, scan_at, seqs_at, with_text, with_number, snap_of, snap_at, copy_at, compact_of, compact_at, verb_of, verb_at}
use Rattle.script_text.proofs.Options.{bind_some, guard_not, chosen, some_is, none_is_not_some, full_from}
use Rattle.script_text.proofs.Fields.{none_again, some_again, keyword_takes, keyword_again, text_takes, text_again, number_takes, number_again, count_takes, count_again, ro_words, read_only_takes, read_only_again, meta_takes, meta_again, direction_takes, direction_again}

-- ---- items

record TookItem (ws : List (List ℕ)) (x : Item × List (List ℕ)) : Type 0 where
  parts : ws ≡ item_words x.0 ++ x.1
  right : IsRightItem x.0

put_takes : (ws : List (List ℕ)) (x : Item × List (List ℕ)) → put_at ws ≡ Some x → TookItem (codes "put" ∷ ws) x
unfolding put_at item_words IsRightItem
put_takes ws x e =
    let a = bind_some (text_at ws) (λ key. text_at key.1 >>= λ body. text_at body.1 >>= λ meta. Some (item.Put key.0 meta.0 body.0, meta.1)) x e in
    let b = bind_some (text_at a.0.1) (λ body. text_at body.1 >>= λ meta. Some (item.Put a.0.0 meta.0 body.0, meta.1)) x a.2 in
    let c = bind_some (text_at b.0.1) (λ meta. Some (item.Put a.0.0 meta.0 b.0.0, meta.1)) x b.2 in
    let s = text_takes ws a.0 a.1 in
    let t = text_takes a.0.1 b.0 b.1 in
    let u = text_takes b.0.1 c.0 c.1 in
    let made : Item × List (List ℕ) = (item.Put a.0.0 c.0.0 b.0.0, c.0.1) in
    let parts = s.parts ∙ ap (λ (r : List (List ℕ)). word_of a.0.0 ∷ r) (t.parts ∙ ap (λ (r : List (List ℕ)). word_of b.0.0 ∷ r) u.parts) in
    subst (λ (y : Item × List (List ℕ)). TookItem (codes "put" ∷ ws) y) (some_is made x c.2)
    (record { parts = ap (λ (r : List (List ℕ)). codes "put" ∷ r) parts; right = (s.small, u.small, t.small) })

del_takes : (ws : List (List ℕ)) (x : Item × List (List ℕ)) → del_at ws ≡ Some x → TookItem (codes "del" ∷ ws) x
unfolding del_at item_words IsRightItem
del_takes ws x e =
    let a = bind_some (text_at ws) (λ key. Some (item.Del key.0, key.1)) x e in
    let s = text_takes ws a.0 a.1 in
    let made : Item × List (List ℕ) = (item.Del a.0.0, a.0.1) in
    subst (λ (y : Item × List (List ℕ)). TookItem (codes "del" ∷ ws) y) (some_is made x a.2)
    (record { parts = ap (λ (r : List (List ℕ)). codes "del" ∷ r) s.parts; right = s.small })

kind_takes : (k : Keyword) (ws : List (List ℕ)) (x : Item × List (List ℕ)) → item_of k ws ≡ Some x → TookItem (keyword_name k ∷ ws) x
unfolding item_of keyword_name
kind_takes keyword.Put ws x e = put_takes ws x e
kind_takes keyword.Del ws x e = del_takes ws x e
kind_takes _ ws x e = absurd (none_is_not_some x e)

item_takes : (ws : List (List ℕ)) (x : Item × List (List ℕ)) → item_at ws ≡ Some x → TookItem ws x
unfolding item_at
item_takes ws x e =
    let k = bind_some (keyword_at ws) (λ k. item_of k.0 k.1) x e in
    subst (λ (r : List (List ℕ)). TookItem r x) (sym (keyword_takes ws k.0 k.1)) (kind_takes k.0.0 k.0.1 x k.2)

item_again : (x : Item) (ws : List (List ℕ)) → IsRightItem x → item_at (item_words x ++ ws) ≡ Some (x, ws)
unfolding item_at item_of put_at del_at item_words IsRightItem keyword_name
item_again (item.Put key meta body) ws right =
    rw (keyword_again keyword.Put (word_of key ∷ word_of body ∷ word_of meta ∷ ws), text_again key (word_of body ∷ word_of meta ∷ ws) right.0, text_again body (word_of meta ∷ ws) right.2, text_again meta ws right.1) refl
item_again (item.Del key) ws right = rw (keyword_again keyword.Del (word_of key ∷ ws), text_again key ws right) refl

item_is_some : (x : Item) (ws : List (List ℕ)) → none_left (item_words x ++ ws) ≡ false
unfolding item_words
item_is_some (item.Put key meta body) ws = some_again (codes "put") (word_of key ∷ word_of body ∷ word_of meta ∷ ws)
item_is_some (item.Del key) ws = some_again (codes "del") (word_of key ∷ ws)

record TookItems (n : ℕ) (ws : List (List ℕ)) (x : List Item × List (List ℕ)) : Type 0 where
  parts : ws ≡ flat_map item_words x.0 ++ x.1
  right : AllByRecursion IsRightItem x.0
  within : length x.0 ≤ n

items_take : (n : ℕ) (ws : List (List ℕ)) (x : List Item × List (List ℕ)) → items_at n ws ≡ Some x → TookItems n ws x
unfolding items_at
items_take zero ws x e = subst (λ (y : List Item × List (List ℕ)). TookItems zero ws y) (some_is ([], ws) x e) (record { parts = refl; right = tt; within = omega arith })
items_take (suc n) ws x e =
    elim (chosen (none_left ws) (Some ([], ws)) (item_at ws >>= λ first. items_at n first.1 >>= λ others. Some (first.0 ∷ others.0, others.1)) x e) [
      | inl h ↦ subst (λ (y : List Item × List (List ℕ)). TookItems (suc n) ws y) (some_is ([], ws) x h.1) (record { parts = refl; right = tt; within = omega arith })
      | inr h ↦
          let a = bind_some (item_at ws) (λ first. items_at n first.1 >>= λ others. Some (first.0 ∷ others.0, others.1)) x h.1 in
          let b = bind_some (items_at n a.0.1) (λ others. Some (a.0.0 ∷ others.0, others.1)) x a.2 in
          let s = item_takes ws a.0 a.1 in
          let t = items_take n a.0.1 b.0 b.1 in
          let made : List Item × List (List ℕ) = (a.0.0 ∷ b.0.0, b.0.1) in
          subst (λ (y : List Item × List (List ℕ)). TookItems (suc n) ws y) (some_is made x b.2)
          (record {
            parts = s.parts ∙ ap (λ (r : List (List ℕ)). item_words a.0.0 ++ r) t.parts ∙ sym (append_assoc (item_words a.0.0) (flat_map item_words b.0.0) b.0.1);
            right = (s.right, t.right);
            within = omega (arith, t.within);
          })
    ]

items_again : (n : ℕ) (xs : List Item) → AllByRecursion IsRightItem xs → length xs ≤ n → items_at n (flat_map item_words xs) ≡ Some (xs, [])
unfolding items_at
items_again zero [] right within = refl
items_again (suc n) [] right within = rw none_again refl
items_again zero (x ∷ xs) right within = absurd (omega arith)
items_again (suc n) (x ∷ xs) right within =
    rw (item_is_some x (flat_map item_words xs), item_again x (flat_map item_words xs) right.0, items_again n xs right.1 (omega arith)) refl

-- ---- verbs

-- what reading took from the front, and that it is right
pub record Took (server : Bool) (ws : List (List ℕ)) (x : Verb × List (List ℕ)) : Type 0 where
  pub parts : ws ≡ verb_words x.0 ++ x.1
  pub right : IsRightVerb server x.0

-- a verb that is words of the language alone
alone_takes : (server : Bool) (front : List (List ℕ)) (v : Verb) (ws : List (List ℕ)) (x : Verb × List (List ℕ)) → front ≡ verb_words v → IsRightVerb server v → Some (v, ws) ≡ Some x → Took server (front ++ ws) x
alone_takes server front v ws x is right e = subst (λ (y : Verb × List (List ℕ)). Took server (front ++ ws) y) (some_is (v, ws) x e) (record { parts = ap (λ (r : List (List ℕ)). r ++ ws) is; right = right })

-- a verb that ends with a text word, or with a number
text_verb : (server : Bool) (front : List (List ℕ)) (make : List ℕ → Verb) → ((t : List ℕ) → front ++ word_of t ∷ [] ≡ verb_words (make t)) → ((t : List ℕ) → AreBytes t → IsRightVerb server (make t))
    → (ws : List (List ℕ)) (x : Verb × List (List ℕ)) → with_text make ws ≡ Some x → Took server (front ++ ws) x
text_verb server front make is right ws x e =
    let a = bind_some (text_at ws) (λ t. Some (make t.0, t.1)) x e in
    let s = text_takes ws a.0 a.1 in
    let parts : front ++ ws ≡ verb_words (make a.0.0) ++ a.0.1 =
    ap (λ (r : List (List ℕ)). front ++ r) s.parts ∙ sym (append_assoc front (word_of a.0.0 ∷ []) a.0.1) ∙ ap (λ (r : List (List ℕ)). r ++ a.0.1) (is a.0.0)
    in
    subst (λ (y : Verb × List (List ℕ)). Took server (front ++ ws) y) (some_is (make a.0.0, a.0.1) x a.2) (record { parts = parts; right = right a.0.0 s.small })

number_verb : (server : Bool) (front : List (List ℕ)) (make : ℕ → Verb) → ((n : ℕ) → front ++ decimal n ∷ [] ≡ verb_words (make n)) → ((n : ℕ) → n < 2 ^ 64 → IsRightVerb server (make n))
    → (ws : List (List ℕ)) (x : Verb × List (List ℕ)) → with_number make ws ≡ Some x → Took server (front ++ ws) x
number_verb server front make is right ws x e =
    let a = bind_some (number_at ws) (λ n. Some (make n.0, n.1)) x e in
    let s = number_takes ws a.0 a.1 in
    let parts : front ++ ws ≡ verb_words (make a.0.0) ++ a.0.1 =
    ap (λ (r : List (List ℕ)). front ++ r) s.parts ∙ sym (append_assoc front (decimal a.0.0 ∷ []) a.0.1) ∙ ap (λ (r : List (List ℕ)). r ++ a.0.1) (is a.0.0)
    in
    subst (λ (y : Verb × List (List ℕ)). Took server (front ++ ws) y) (some_is (make a.0.0, a.0.1) x a.2) (record { parts = parts; right = right a.0.0 s.small })

use_is : (name : List ℕ) (ro : Bool) → codes "use" ∷ word_of name ∷ ro_words ro ≡ verb_words (verb.UseStore name ro)
unfolding verb_words
use_is name false = refl
use_is name true = refl

use_takes : (server : Bool) (ws : List (List ℕ)) (x : Verb × List (List ℕ)) → use_at ws ≡ Some x → Took server (codes "use" ∷ ws) x
unfolding use_at IsRightVerb
use_takes server ws x e =
    let a = bind_some (text_at ws) (λ name. read_only_at name.1 >>= λ ro. Some (verb.UseStore name.0 ro.0, ro.1)) x e in
    let b = bind_some (read_only_at a.0.1) (λ ro. Some (verb.UseStore a.0.0 ro.0, ro.1)) x a.2 in
    let s = text_takes ws a.0 a.1 in
    let t = read_only_takes a.0.1 b.0 b.1 in
    let made : Verb × List (List ℕ) = (verb.UseStore a.0.0 b.0.0, b.0.1) in
    let parts = ap (λ (r : List (List ℕ)). codes "use" ∷ r) (s.parts ∙ ap (λ (r : List (List ℕ)). word_of a.0.0 ∷ r) t) ∙ ap (λ (r : List (List ℕ)). r ++ b.0.1) (use_is a.0.0 b.0.0) in
    subst (λ (y : Verb × List (List ℕ)). Took server (codes "use" ∷ ws) y) (some_is made x b.2) (record { parts = parts; right = s.small })

set_takes : (server : Bool) (ws : List (List ℕ)) (x : Verb × List (List ℕ)) → set_at ws ≡ Some x → Took server (codes "set" ∷ ws) x
unfolding set_at verb_words IsRightVerb
set_takes server ws x e =
    let a = bind_some (text_at ws) (λ key. text_at key.1 >>= λ body. meta_at body.1 >>= λ meta. Some (verb.Set key.0 meta.0 body.0, meta.1)) x e in
    let b = bind_some (text_at a.0.1) (λ body. meta_at body.1 >>= λ meta. Some (verb.Set a.0.0 meta.0 body.0, meta.1)) x a.2 in
    let c = bind_some (meta_at b.0.1) (λ meta. Some (verb.Set a.0.0 meta.0 b.0.0, meta.1)) x b.2 in
    let s = text_takes ws a.0 a.1 in
    let t = text_takes a.0.1 b.0 b.1 in
    let u = meta_takes b.0.1 c.0 c.1 in
    let made : Verb × List (List ℕ) = (verb.Set a.0.0 c.0.0 b.0.0, c.0.1) in
    let parts = s.parts ∙ ap (λ (r : List (List ℕ)). word_of a.0.0 ∷ r) (t.parts ∙ ap (λ (r : List (List ℕ)). word_of b.0.0 ∷ r) u.parts) in
    subst (λ (y : Verb × List (List ℕ)). Took server (codes "set" ∷ ws) y) (some_is made x c.2)
    (record { parts = ap (λ (r : List (List ℕ)). codes "set" ∷ r) parts; right = (s.small, u.small, t.small) })

batch_takes : (server : Bool) (ws : List (List ℕ)) (x : Verb × List (List ℕ)) → batch_at ws ≡ Some x → Took server (codes "batch" ∷ ws) x
unfolding batch_at verb_words IsRightVerb
batch_takes server ws x e =
    let a = bind_some (items_at 1024 ws) (λ items. cond (eqb (length items.0) 0) None (Some (verb.Batch items.0, items.1))) x e in
    let made : Verb × List (List ℕ) = (verb.Batch a.0.0, a.0.1) in
    let g = guard_not (eqb (length a.0.0) 0) made x a.2 in
    let t = items_take 1024 ws a.0 a.1 in
    subst (λ (y : Verb × List (List ℕ)). Took server (codes "batch" ∷ ws) y) g.1
    (record { parts = ap (λ (r : List (List ℕ)). codes "batch" ∷ r) t.parts; right = ((full_from (length a.0.0) g.0, t.within), t.right) })

scan_takes : (server : Bool) (ws : List (List ℕ)) (x : Verb × List (List ℕ)) → scan_at ws ≡ Some x → Took server (codes "scan" ∷ ws) x
unfolding scan_at verb_words IsRightVerb
scan_takes server ws x e =
    let a = bind_some (direction_at ws) (λ up. text_at up.1 >>= λ from. count_at 65536 from.1 >>= λ count. Some (verb.Scan up.0 from.0 count.0, count.1)) x e in
    let b = bind_some (text_at a.0.1) (λ from. count_at 65536 from.1 >>= λ count. Some (verb.Scan a.0.0 from.0 count.0, count.1)) x a.2 in
    let c = bind_some (count_at 65536 b.0.1) (λ count. Some (verb.Scan a.0.0 b.0.0 count.0, count.1)) x b.2 in
    let s = direction_takes ws a.0 a.1 in
    let t = text_takes a.0.1 b.0 b.1 in
    let u = count_takes 65536 b.0.1 c.0 c.1 in
    let made : Verb × List (List ℕ) = (verb.Scan a.0.0 b.0.0 c.0.0, c.0.1) in
    let parts = s ∙ ap (λ (r : List (List ℕ)). direction a.0.0 ∷ r) (t.parts ∙ ap (λ (r : List (List ℕ)). word_of b.0.0 ∷ r) u.parts) in
    subst (λ (y : Verb × List (List ℕ)). Took server (codes "scan" ∷ ws) y) (some_is made x c.2)
    (record { parts = ap (λ (r : List (List ℕ)). codes "scan" ∷ r) parts; right = (t.small, u.within) })

seqs_takes : (server : Bool) (ws : List (List ℕ)) (x : Verb × List (List ℕ)) → seqs_at ws ≡ Some x → Took server (codes "seqs" ∷ ws) x
unfolding seqs_at verb_words IsRightVerb
seqs_takes server ws x e =
    let a = bind_some (direction_at ws) (λ up. number_at up.1 >>= λ from. count_at 65536 from.1 >>= λ count. Some (verb.Seqs up.0 from.0 count.0, count.1)) x e in
    let b = bind_some (number_at a.0.1) (λ from. count_at 65536 from.1 >>= λ count. Some (verb.Seqs a.0.0 from.0 count.0, count.1)) x a.2 in
    let c = bind_some (count_at 65536 b.0.1) (λ count. Some (verb.Seqs a.0.0 b.0.0 count.0, count.1)) x b.2 in
    let s = direction_takes ws a.0 a.1 in
    let t = number_takes a.0.1 b.0 b.1 in
    let u = count_takes 65536 b.0.1 c.0 c.1 in
    let made : Verb × List (List ℕ) = (verb.Seqs a.0.0 b.0.0 c.0.0, c.0.1) in
    let parts = s ∙ ap (λ (r : List (List ℕ)). direction a.0.0 ∷ r) (t.parts ∙ ap (λ (r : List (List ℕ)). decimal b.0.0 ∷ r) u.parts) in
    subst (λ (y : Verb × List (List ℕ)). Took server (codes "seqs" ∷ ws) y) (some_is made x c.2)
    (record { parts = ap (λ (r : List (List ℕ)). codes "seqs" ∷ r) parts; right = (t.small, u.within) })

snap_word_takes : (server : Bool) (k : Keyword) (ws : List (List ℕ)) (x : Verb × List (List ℕ)) → snap_of k ws ≡ Some x → Took server (codes "snap" ∷ keyword_name k ∷ ws) x
unfolding snap_of keyword_name verb_words IsRightVerb
snap_word_takes server keyword.Latest ws x e = alone_takes server (codes "snap" ∷ codes "latest" ∷ []) verb.SnapLatest ws x refl tt e
snap_word_takes server keyword.At ws x e = number_verb server (codes "snap" ∷ codes "at" ∷ []) (λ n. verb.SnapAt n) (λ n. refl) (λ n h. h) ws x e
snap_word_takes server keyword.Get ws x e = text_verb server (codes "snap" ∷ codes "get" ∷ []) (λ t. verb.SnapGet t) (λ t. refl) (λ t h. h) ws x e
snap_word_takes server keyword.BySeq ws x e = number_verb server (codes "snap" ∷ codes "byseq" ∷ []) (λ n. verb.SnapBySeq n) (λ n. refl) (λ n h. h) ws x e
snap_word_takes server keyword.Close ws x e = alone_takes server (codes "snap" ∷ codes "close" ∷ []) verb.SnapClose ws x refl tt e
snap_word_takes server _ ws x e = absurd (none_is_not_some x e)

snap_takes : (server : Bool) (ws : List (List ℕ)) (x : Verb × List (List ℕ)) → snap_at ws ≡ Some x → Took server (codes "snap" ∷ ws) x
unfolding snap_at
snap_takes server ws x e =
    let k = bind_some (keyword_at ws) (λ k. snap_of k.0 k.1) x e in
    subst (λ (r : List (List ℕ)). Took server (codes "snap" ∷ r) x) (sym (keyword_takes ws k.0 k.1)) (snap_word_takes server k.0.0 k.0.1 x k.2)

copy_takes : (ws : List (List ℕ)) (x : Verb × List (List ℕ)) → copy_at ws ≡ Some x → Took false (codes "compact" ∷ codes "copy" ∷ ws) x
unfolding copy_at verb_words IsRightVerb
copy_takes ws x e =
    let a = bind_some (count_at 1000000 ws) (λ count. Some (verb.CompactCopy count.0, count.1)) x e in
    let s = count_takes 1000000 ws a.0 a.1 in
    let made : Verb × List (List ℕ) = (verb.CompactCopy a.0.0, a.0.1) in
    subst (λ (y : Verb × List (List ℕ)). Took false (codes "compact" ∷ codes "copy" ∷ ws) y) (some_is made x a.2)
    (record { parts = ap (λ (r : List (List ℕ)). codes "compact" ∷ codes "copy" ∷ r) s.parts; right = (refl, s.within) })

compact_word_takes : (k : Keyword) (ws : List (List ℕ)) (x : Verb × List (List ℕ)) → compact_of k ws ≡ Some x → Took false (codes "compact" ∷ keyword_name k ∷ ws) x
unfolding compact_of keyword_name verb_words IsRightVerb
compact_word_takes keyword.Begin ws x e = alone_takes false (codes "compact" ∷ codes "begin" ∷ []) verb.CompactBegin ws x refl refl e
compact_word_takes keyword.Copy ws x e = copy_takes ws x e
compact_word_takes keyword.Delta ws x e = alone_takes false (codes "compact" ∷ codes "delta" ∷ []) verb.CompactDelta ws x refl refl e
compact_word_takes keyword.Switch ws x e = alone_takes false (codes "compact" ∷ codes "switch" ∷ []) verb.CompactSwitch ws x refl refl e
compact_word_takes keyword.Cancel ws x e = alone_takes false (codes "compact" ∷ codes "cancel" ∷ []) verb.CompactCancel ws x refl refl e
compact_word_takes _ ws x e = absurd (none_is_not_some x e)

compact_takes : (server : Bool) (ws : List (List ℕ)) (x : Verb × List (List ℕ)) → compact_at server ws ≡ Some x → Took server (codes "compact" ∷ ws) x
unfolding compact_at verb_words IsRightVerb
compact_takes true ws x e = alone_takes true (codes "compact" ∷ []) verb.Compact ws x refl refl e
compact_takes false ws x e =
    let k = bind_some (keyword_at ws) (λ k. compact_of k.0 k.1) x e in
    subst (λ (r : List (List ℕ)). Took false (codes "compact" ∷ r) x) (sym (keyword_takes ws k.0 k.1)) (compact_word_takes k.0.0 k.0.1 x k.2)

verb_word_takes : (server : Bool) (k : Keyword) (ws : List (List ℕ)) (x : Verb × List (List ℕ)) → verb_of server k ws ≡ Some x → Took server (keyword_name k ∷ ws) x
unfolding verb_of keyword_name verb_words IsRightVerb
verb_word_takes server keyword.Use ws x e = use_takes server ws x e
verb_word_takes server keyword.Remove ws x e = text_verb server (codes "remove" ∷ []) (λ t. verb.Remove t) (λ t. refl) (λ t h. h) ws x e
verb_word_takes server keyword.Set ws x e = set_takes server ws x e
verb_word_takes server keyword.Del ws x e = text_verb server (codes "del" ∷ []) (λ t. verb.Del t) (λ t. refl) (λ t h. h) ws x e
verb_word_takes server keyword.Batch ws x e = batch_takes server ws x e
verb_word_takes server keyword.Get ws x e = text_verb server (codes "get" ∷ []) (λ t. verb.Get t) (λ t. refl) (λ t h. h) ws x e
verb_word_takes server keyword.BySeq ws x e = number_verb server (codes "byseq" ∷ []) (λ n. verb.BySeq n) (λ n. refl) (λ n h. h) ws x e
verb_word_takes server keyword.Commit ws x e = alone_takes server (codes "commit" ∷ []) verb.Commit ws x refl tt e
verb_word_takes server keyword.Markers ws x e = alone_takes server (codes "markers" ∷ []) verb.Markers ws x refl tt e
verb_word_takes server keyword.Rollback ws x e = number_verb server (codes "rollback" ∷ []) (λ n. verb.Rollback n) (λ n. refl) (λ n h. h) ws x e
verb_word_takes server keyword.Info ws x e = alone_takes server (codes "info" ∷ []) verb.Info ws x refl tt e
verb_word_takes server keyword.Snap ws x e = snap_takes server ws x e
verb_word_takes server keyword.Scan ws x e = scan_takes server ws x e
verb_word_takes server keyword.Seqs ws x e = seqs_takes server ws x e
verb_word_takes server keyword.Compact ws x e = compact_takes server ws x e
verb_word_takes server _ ws x e = absurd (none_is_not_some x e)

pub verb_takes : (server : Bool) (ws : List (List ℕ)) (x : Verb × List (List ℕ)) → verb_at server ws ≡ Some x → Took server ws x
unfolding verb_at
verb_takes server ws x e =
    let k = bind_some (keyword_at ws) (λ k. verb_of server k.0 k.1) x e in
    subst (λ (r : List (List ℕ)). Took server r x) (sym (keyword_takes ws k.0 k.1)) (verb_word_takes server k.0.0 k.0.1 x k.2)

-- ---- what was written is read again

text_word_again : (make : List ℕ → Verb) (t : List ℕ) → AreBytes t → with_text make (word_of t ∷ []) ≡ Some (make t, [])
text_word_again make t small = rw (text_again t [] small) refl

number_word_again : (make : ℕ → Verb) (n : ℕ) → n < 2 ^ 64 → with_number make (decimal n ∷ []) ≡ Some (make n, [])
number_word_again make n lt = rw (number_again n [] lt) refl

use_again : (name : List ℕ) (ro : Bool) → AreBytes name → use_at (word_of name ∷ ro_words ro) ≡ Some (verb.UseStore name ro, [])
unfolding use_at
use_again name ro small = rw (text_again name (ro_words ro) small, read_only_again ro) refl

set_again : (key meta body : List ℕ) → AreBytes key → AreBytes meta → AreBytes body → set_at (word_of key ∷ word_of body ∷ meta_words meta) ≡ Some (verb.Set key meta body, [])
unfolding set_at
set_again key meta body k m b = rw (text_again key (word_of body ∷ meta_words meta) k, text_again body (meta_words meta) b, meta_again meta m) refl

some_items : (items : List Item) → 1 ≤ length items → eqb (length items) 0 ≡ false
some_items items some = ne_eqb (length items) 0 (λ e. omega arith)

batch_again : (items : List Item) → IsCount 1024 (length items) → AllByRecursion IsRightItem items → batch_at (flat_map item_words items) ≡ Some (verb.Batch items, [])
unfolding batch_at
batch_again items within right = rw (items_again 1024 items right within.1, some_items items within.0) refl

scan_again : (up : Bool) (from : List ℕ) (count : ℕ) → AreBytes from → IsCount 65536 count → scan_at (direction up ∷ word_of from ∷ decimal count ∷ []) ≡ Some (verb.Scan up from count, [])
unfolding scan_at
scan_again up from count small within =
    rw (direction_again up (word_of from ∷ decimal count ∷ []), text_again from (decimal count ∷ []) small, count_again 65536 count [] (lit< tt) within) refl

seqs_again : (up : Bool) (from count : ℕ) → from < 2 ^ 64 → IsCount 65536 count → seqs_at (direction up ∷ decimal from ∷ decimal count ∷ []) ≡ Some (verb.Seqs up from count, [])
unfolding seqs_at
seqs_again up from count small within =
    rw (direction_again up (decimal from ∷ decimal count ∷ []), number_again from (decimal count ∷ []) small, count_again 65536 count [] (lit< tt) within) refl

snap_again : (k : Keyword) (ws : List (List ℕ)) → snap_at (keyword_name k ∷ ws) ≡ snap_of k ws
unfolding snap_at
snap_again k ws = rw (keyword_again k ws) refl

compact_again : (k : Keyword) (ws : List (List ℕ)) → compact_at false (keyword_name k ∷ ws) ≡ compact_of k ws
unfolding compact_at
compact_again k ws = rw (keyword_again k ws) refl

copy_again : (count : ℕ) → IsCount 1000000 count → copy_at (decimal count ∷ []) ≡ Some (verb.CompactCopy count, [])
unfolding copy_at
copy_again count within = rw (count_again 1000000 count [] (lit< tt) within) refl

word_again : (server : Bool) (k : Keyword) (ws : List (List ℕ)) → verb_at server (keyword_name k ∷ ws) ≡ verb_of server k ws
unfolding verb_at
word_again server k ws = rw (keyword_again k ws) refl

play_only : (server : Bool) → IsTrue (not server) → server ≡ false
play_only true h = absurd cc
play_only false h = refl

pub verb_again : (server : Bool) (v : Verb) → IsRightVerb server v → verb_at server (verb_words v) ≡ Some (v, [])
unfolding verb_of snap_of compact_of compact_at verb_words keyword_name IsRightVerb
verb_again server (verb.UseStore name false) right = word_again server keyword.Use (word_of name ∷ []) ∙ use_again name false right
verb_again server (verb.UseStore name true) right = word_again server keyword.Use (word_of name ∷ codes "ro" ∷ []) ∙ use_again name true right
verb_again server (verb.Remove name) right = word_again server keyword.Remove (word_of name ∷ []) ∙ text_word_again (λ t. verb.Remove t) name right
verb_again server (verb.Set key meta body) right = word_again server keyword.Set (word_of key ∷ word_of body ∷ meta_words meta) ∙ set_again key meta body right.0 right.1 right.2
verb_again server (verb.Del key) right = word_again server keyword.Del (word_of key ∷ []) ∙ text_word_again (λ t. verb.Del t) key right
verb_again server (verb.Batch items) right = word_again server keyword.Batch (flat_map item_words items) ∙ batch_again items right.0 right.1
verb_again server (verb.Get key) right = word_again server keyword.Get (word_of key ∷ []) ∙ text_word_again (λ t. verb.Get t) key right
verb_again server (verb.BySeq seq) right = word_again server keyword.BySeq (decimal seq ∷ []) ∙ number_word_again (λ n. verb.BySeq n) seq right
verb_again server verb.Commit right = word_again server keyword.Commit []
verb_again server verb.Markers right = word_again server keyword.Markers []
verb_again server (verb.Rollback number) right = word_again server keyword.Rollback (decimal number ∷ []) ∙ number_word_again (λ n. verb.Rollback n) number right
verb_again server verb.Info right = word_again server keyword.Info []
verb_again server verb.SnapLatest right = word_again server keyword.Snap (codes "latest" ∷ []) ∙ snap_again keyword.Latest []
verb_again server (verb.SnapAt seq) right = word_again server keyword.Snap (codes "at" ∷ decimal seq ∷ []) ∙ snap_again keyword.At (decimal seq ∷ []) ∙ number_word_again (λ n. verb.SnapAt n) seq right
verb_again server (verb.SnapGet key) right = word_again server keyword.Snap (codes "get" ∷ word_of key ∷ []) ∙ snap_again keyword.Get (word_of key ∷ []) ∙ text_word_again (λ t. verb.SnapGet t) key right
verb_again server (verb.SnapBySeq seq) right = word_again server keyword.Snap (codes "byseq" ∷ decimal seq ∷ []) ∙ snap_again keyword.BySeq (decimal seq ∷ []) ∙ number_word_again (λ n. verb.SnapBySeq n) seq right
verb_again server verb.SnapClose right = word_again server keyword.Snap (codes "close" ∷ []) ∙ snap_again keyword.Close []
verb_again server (verb.Scan up from count) right = word_again server keyword.Scan (direction up ∷ word_of from ∷ decimal count ∷ []) ∙ scan_again up from count right.0 right.1
verb_again server (verb.Seqs up from count) right = word_again server keyword.Seqs (direction up ∷ decimal from ∷ decimal count ∷ []) ∙ seqs_again up from count right.0 right.1
verb_again true verb.CompactBegin right = absurd cc
verb_again false verb.CompactBegin right = word_again false keyword.Compact (codes "begin" ∷ []) ∙ compact_again keyword.Begin []
verb_again true (verb.CompactCopy count) right = absurd (let no = right.0 in cc)
verb_again false (verb.CompactCopy count) right = word_again false keyword.Compact (codes "copy" ∷ decimal count ∷ []) ∙ compact_again keyword.Copy (decimal count ∷ []) ∙ copy_again count right.1
verb_again true verb.CompactDelta right = absurd cc
verb_again false verb.CompactDelta right = word_again false keyword.Compact (codes "delta" ∷ []) ∙ compact_again keyword.Delta []
verb_again true verb.CompactSwitch right = absurd cc
verb_again false verb.CompactSwitch right = word_again false keyword.Compact (codes "switch" ∷ []) ∙ compact_again keyword.Switch []
verb_again true verb.CompactCancel right = absurd cc
verb_again false verb.CompactCancel right = word_again false keyword.Compact (codes "cancel" ∷ []) ∙ compact_again keyword.Cancel []
verb_again true verb.Compact right = word_again true keyword.Compact []
verb_again false verb.Compact right = absurd cc
