-- All passes still agree after each kind of step.
use Rattle.std.proofs.Common.{◌≡◌, ◌≢◌, ℕ, zero, suc, ◌+◌, ◌-◌, ◌<◌, cond, List, [], ◌∷◌, ◌++◌, length, set, sym, refl, ap, ◌∙◌, subst, arith, append-nil}
use Rattle.std.specs.Prelude.{Option, sum_by, filter, ◌&&◌, ◌==◌, nat_le, option_to_list, if◌then◌else◌}
use Rattle.std.specs.List.{AllByRecursion, flat_map}
use Rattle.std.proofs.lemmas.List.Sums.{sum_by-append}
use mathlib.Core.Option.{some, some-injective}
use lib.ListN.{get_elem?}
use Rattle.forest_model.specs.State.{Durable}
use Rattle.forest_model.specs.Notes.{place_of, is_changed, is_stopped, tried, times_made, ends_of, points_of}
use Rattle.forest_model.specs.History.{IsSection, IsNoted, IsHistory, AgreesWith, Agree, IsSpent, all_shares}
use Rattle.forest_model.specs.declared.held.Point.{Point}
use Rattle.forest_model.specs.declared.held.Section.{Section}
use Rattle.forest_model.specs.declared.held.Notes.{Notes}
use Rattle.turnstile.specs.Noting.{noted, without_share, told_all, joined, spent_notes}
use Rattle.turnstile.specs.Rule.{notes_in, gives_share, has_share, takes_in, nothing_left}
use Rattle.turnstile.specs.declared.berth.Knows.{Knows}
use Rattle.turnstile.proofs.Lists.{sum_set, sum_snoc, others_nothing, sum_alone, each_set, each_snoc, all_append, all_first, all_second, all_map, flat_append, filter_append}
use Rattle.atomic_table.proofs.Lists.{set_else}

-- once place count: 1 at the places 1 to the count
abbrev pub once : ℕ → ℕ → ℕ
once place count = if nat_le 1 place && nat_le place count then 1 else 0

abbrev pub makes : ℕ → Section → ℕ
makes place s = cond (is_changed s.deed && (place_of s.left == place)) 1 0

abbrev pub tries : Section → ℕ
tries s = length (filter (λ x. is_stopped x.deed) (s ∷ []))

made_noted : (k : ℕ) (n : Notes) (s : Section) → times_made k (noted n s) ≡ times_made k n + makes k s
made_noted k n s = sum_snoc (makes k) n.sections s

tried_noted : (n : Notes) (s : Section) → length (tried (noted n s)) ≡ length (tried n) + tries s
tried_noted n s = filter_append (λ x. is_stopped x.deed) n.sections (s ∷ [])

made_joined : (k : ℕ) (n m : Notes) → times_made k (joined n m) ≡ times_made k n + times_made k m
made_joined k n m = sum_by-append (makes k) n.sections m.sections

tried_joined : (n m : Notes) → length (tried (joined n m)) ≡ length (tried n) + length (tried m)
tried_joined n m = filter_append (λ x. is_stopped x.deed) n.sections m.sections

made_spent : (k : ℕ) (n : Notes) → IsSpent n → times_made k n ≡ 0
made_spent k n h = ap (sum_by (makes k)) h.1

tried_spent : (n : Notes) → IsSpent n → length (tried n) ≡ 0
tried_spent n h = ap (λ z. length (filter (λ x. is_stopped x.deed) z)) h.1

module _ {T : Type 0} where
  -- a sum over the notes after a change of one pass
  moved_sum : (f : Notes → ℕ) (views : List (Knows T)) (id : ℕ) (v w : Knows T) (k : ℕ) → get_elem? views id ≡ some v → f w.notes ≡ f v.notes + k
      → sum_by (λ x. f (notes_in x)) (set views id w) ≡ sum_by (λ x. f (notes_in x)) views + k
  moved_sum f views id v w k at e = let h = sum_set (λ (x : Knows T). f (notes_in x)) views id v w at in omega arith

module _ {T : Type 0} (shows : T → Point) (is_sound : T → Type 0) (covers : T → ℕ → List Durable → Type 0) where
  abbrev N : T → T → List Section → Option Section → Point → Type 0
  N = IsNoted shows is_sound covers

  abbrev W : T → T → List Section → Option Section → Notes → Type 0
  W = AgreesWith shows is_sound covers

  abbrev A : T → T → List Section → Option Section → List (Knows T) → Type 0
  A first now xs stop views = Agree shows is_sound covers {V = Knows T} notes_in first now xs stop views

  -- a pass knows as much with other shares
  pub with_shares : (first now : T) (xs : List Section) (stop : Option Section) (n : Notes) (k : ℕ) → W first now xs stop n → W first now xs stop (record n { shares = k })
  with_shares first now xs stop n k h = record { start = h.start; points = h.points; sections = h.sections }

  -- a step that changes no notes
  pub rewritten : (first now : T) (xs : List Section) (stop : Option Section) (views : List (Knows T)) (id : ℕ) (v w : Knows T)
      → A first now xs stop views → get_elem? views id ≡ some v → w.notes ≡ v.notes → A first now xs stop (set views id w)
  rewritten first now xs stop views id v w r at e = record {
    history = r.history;
    each = each_set (λ j (a : Knows T). 0 < a.notes.shares → W first now xs stop a.notes) views id w (λ pos. subst (W first now xs stop) (sym e) (r.each id v at (subst (λ (n : Notes). 0 < n.shares) e pos))) r.each;
    spent = each_set (λ j (a : Knows T). a.notes.shares ≡ 0 → IsSpent a.notes) views id w (λ none. subst IsSpent (sym e) (r.spent id v at (subst (λ (n : Notes). n.shares ≡ 0) e none))) r.spent;
    shares = kept_sum (λ n. n.shares) ∙ r.shares;
    made_once = λ k. kept_sum (times_made k) ∙ r.made_once k;
    tried_once = kept_sum (λ n. length (tried n)) ∙ r.tried_once;
  }
    where
      kept_sum : (f : Notes → ℕ) → sum_by (λ x. f (notes_in x)) (set views id w) ≡ sum_by (λ x. f (notes_in x)) views
      kept_sum f = let q : f w.notes ≡ f v.notes + 0 = let p : f w.notes ≡ f v.notes = ap f e in omega arith in let h = moved_sum f views id v w 0 at q in omega arith

  noted_with : (first now : T) (xs : List Section) (stop : Option Section) (n : Notes) (s : Section) → W first now xs stop n → N first now xs stop s.entered → N first now xs stop s.left → IsSection xs stop s
      → W first now xs stop (noted n s)
  noted_with first now xs stop n s h pe pl own =
      let P : Point → Type 0 = N first now xs stop in
      let told = all_first P n.told (flat_map ends_of n.sections) h.points.1 in
      let flat = all_second P n.told (flat_map ends_of n.sections) h.points.1 in record {
        start = h.start;
        points = (h.points.0, subst (λ z. AllByRecursion P (n.told ++ z)) (sym (flat_append ends_of n.sections (s ∷ []))) (all_append P n.told _ told (all_append P (flat_map ends_of n.sections) (ends_of s) flat (pe, (pl, tt)))));
        sections = all_append (IsSection xs stop) n.sections (s ∷ []) h.sections (own, tt);
      }

  moved_with : (first now value : T) (xs xs' : List Section) (stop stop' : Option Section) (n : Notes) → ((p : Point) → N first now xs stop p → N first value xs' stop' p) → ((x : Section) → IsSection xs stop x → IsSection xs' stop' x)
      → W first now xs stop n → W first value xs' stop' n
  moved_with first now value xs xs' stop stop' n moves sect h = record {
    start = h.start;
    points = all_map (N first now xs stop) (N first value xs' stop') moves (points_of n) h.points;
    sections = all_map (IsSection xs stop) (IsSection xs' stop') sect n.sections h.sections;
  }

  -- a pass leaves
  pub left_agree : (first now value : T) (xs xs' : List Section) (stop stop' : Option Section) (views : List (Knows T)) (id : ℕ) (v w : Knows T) (s : Section)
      → A first now xs stop views → get_elem? views id ≡ some v → 0 < v.notes.shares → w.notes ≡ noted v.notes s
      → IsHistory shows is_sound covers first value xs' stop'
      → ((p : Point) → N first now xs stop p → N first value xs' stop' p) → ((x : Section) → IsSection xs stop x → IsSection xs' stop' x)
      → N first value xs' stop' s.entered → N first value xs' stop' s.left → IsSection xs' stop' s
      → ((k : ℕ) → once k (length xs') ≡ once k (length xs) + makes k s) → length (option_to_list stop') ≡ length (option_to_list stop) + tries s
      → A first value xs' stop' (set views id w)
  left_agree first now value xs xs' stop stop' views id v w s r at alive e hist moves sect pe pl own made try = record {
    history = hist;
    each = each_set (λ j (a : Knows T). 0 < a.notes.shares → W first value xs' stop' a.notes) views id w
        (λ pos. subst (W first value xs' stop') (sym e) (noted_with first value xs' stop' v.notes s (moved_with first now value xs xs' stop stop' v.notes moves sect (r.each id v at alive)) pe pl own))
        (λ j a at' pos. moved_with first now value xs xs' stop stop' a.notes moves sect (r.each j a at' pos));
    spent = each_set (λ j (a : Knows T). a.notes.shares ≡ 0 → IsSpent a.notes) views id w
        (λ none. let q : v.notes.shares ≡ 0 = subst (λ (n : Notes). n.shares ≡ 0) e none in absurd (omega arith)) r.spent;
    shares = let q : w.notes.shares ≡ v.notes.shares + 0 = let p : w.notes.shares ≡ v.notes.shares = ap (λ n. n.shares) e in omega arith in
        let h = moved_sum (λ n. n.shares) views id v w 0 at q in let t = r.shares in omega arith;
    made_once = λ k. moved_sum (times_made k) views id v w (makes k s) at (ap (times_made k) e ∙ made_noted k v.notes s) ∙ (ap (λ z. z + makes k s) (r.made_once k) ∙ sym (made k));
    tried_once = moved_sum (λ n. length (tried n)) views id v w (tries s) at (ap (λ n. length (tried n)) e ∙ tried_noted v.notes s) ∙ (ap (λ z. z + tries s) r.tried_once ∙ sym try);
  }

  -- a pass gives one share to another
  pub split_agree : (first now : T) (xs : List Section) (stop : Option Section) (views : List (Knows T)) (id : ℕ) (v : Knows T) → A first now xs stop views → get_elem? views id ≡ some v → 1 < v.notes.shares
      → A first now xs stop (set views id (gives_share v) ++ has_share v ∷ [])
  split_agree first now xs stop views id v r at more = record {
    history = r.history;
    each = each_snoc (λ (a : Knows T). 0 < a.notes.shares → W first now xs stop a.notes) (set views id (gives_share v)) (has_share v)
        (λ pos. record { start = own.start; points = subst (λ z. AllByRecursion (N first now xs stop) (v.notes.start ∷ z)) (sym (append-nil (v.notes.told ++ flat_map ends_of v.notes.sections))) own.points; sections = tt })
        (each_set (λ j (a : Knows T). 0 < a.notes.shares → W first now xs stop a.notes) views id (gives_share v) (λ pos. with_shares first now xs stop v.notes (v.notes.shares - 1) own) r.each);
    spent = each_snoc (λ (a : Knows T). a.notes.shares ≡ 0 → IsSpent a.notes) (set views id (gives_share v)) (has_share v) (λ none. absurd (omega arith))
        (each_set (λ j (a : Knows T). a.notes.shares ≡ 0 → IsSpent a.notes) views id (gives_share v) (λ none. absurd (omega arith)) r.spent);
    shares = let h = sum_set (λ (x : Knows T). (notes_in x).shares) views id v (gives_share v) at in let k = sum_snoc (λ (x : Knows T). (notes_in x).shares) (set views id (gives_share v)) (has_share v) in let t = r.shares in omega arith;
    made_once = λ k. same_sum (times_made k) refl refl ∙ r.made_once k;
    tried_once = same_sum (λ n. length (tried n)) refl refl ∙ r.tried_once;
  }
    where
      own : W first now xs stop v.notes
      own = r.each id v at (omega arith)

      same_sum : (f : Notes → ℕ) → f (without_share v.notes) ≡ f v.notes → f (told_all v.notes) ≡ 0 → sum_by (λ x. f (notes_in x)) (set views id (gives_share v) ++ has_share v ∷ []) ≡ sum_by (λ x. f (notes_in x)) views
      same_sum f p q = let h = sum_set (λ (x : Knows T). f (notes_in x)) views id v (gives_share v) at in let k = sum_snoc (λ (x : Knows T). f (notes_in x)) (set views id (gives_share v)) (has_share v) in omega arith

  joined_with : (first now : T) (xs : List Section) (stop : Option Section) (n m : Notes) → W first now xs stop n → W first now xs stop m → W first now xs stop (joined n m)
  joined_with first now xs stop n m h k =
      let P : Point → Type 0 = N first now xs stop in
      let ends : List Section → List Point = flat_map ends_of in record {
        start = h.start;
        points = (
          h.points.0,
          all_append P (n.told ++ m.told) (ends (n.sections ++ m.sections))
              (all_append P n.told m.told (all_first P n.told (ends n.sections) h.points.1) (all_first P m.told (ends m.sections) k.points.1))
              (subst (AllByRecursion P) (sym (flat_append ends_of n.sections m.sections))
              (all_append P (ends n.sections) (ends m.sections) (all_second P n.told (ends n.sections) h.points.1) (all_second P m.told (ends m.sections) k.points.1))),
        );
        sections = all_append (IsSection xs stop) n.sections m.sections h.sections k.sections;
      }

  -- a pass takes in another
  pub join_agree : (first now : T) (xs : List Section) (stop : Option Section) (views : List (Knows T)) (id other : ℕ) (v w : Knows T) → A first now xs stop views → get_elem? views id ≡ some v → other ≢ id
      → get_elem? (set views id (takes_in v w)) other ≡ some w → 0 < v.notes.shares → 0 < w.notes.shares
      → A first now xs stop (set (set views id (takes_in v w)) other nothing_left)
  join_agree first now xs stop views id other v w r at apart at' alive alive' = record {
    history = r.history;
    each = each_set (λ j (a : Knows T). 0 < a.notes.shares → W first now xs stop a.notes) mid other nothing_left (λ pos. absurd (omega arith))
        (each_set (λ j (a : Knows T). 0 < a.notes.shares → W first now xs stop a.notes) views id (takes_in v w)
        (λ pos. joined_with first now xs stop v.notes w.notes (r.each id v at alive) (r.each other w there alive')) r.each);
    spent = each_set (λ j (a : Knows T). a.notes.shares ≡ 0 → IsSpent a.notes) mid other nothing_left (λ none. (refl, refl))
        (each_set (λ j (a : Knows T). a.notes.shares ≡ 0 → IsSpent a.notes) views id (takes_in v w) (λ none. absurd (omega arith)) r.spent);
    shares = both_sum (λ n. n.shares) refl refl ∙ r.shares;
    made_once = λ k. both_sum (times_made k) (made_joined k v.notes w.notes) refl ∙ r.made_once k;
    tried_once = both_sum (λ n. length (tried n)) (tried_joined v.notes w.notes) refl ∙ r.tried_once;
  }
    where
      mid : List (Knows T)
      mid = set views id (takes_in v w)

      there : get_elem? views other ≡ some w
      there = sym (set_else views id other (takes_in v w) apart) ∙ at'

      both_sum : (f : Notes → ℕ) → f (joined v.notes w.notes) ≡ f v.notes + f w.notes → f spent_notes ≡ 0 → sum_by (λ x. f (notes_in x)) (set (set views id (takes_in v w)) other nothing_left) ≡ sum_by (λ x. f (notes_in x)) views
      both_sum f p q = let h = sum_set (λ (x : Knows T). f (notes_in x)) views id v (takes_in v w) at in let k = sum_set (λ (x : Knows T). f (notes_in x)) (set views id (takes_in v w)) other w nothing_left at' in omega arith

  -- a pass with all shares agrees alone
  pub alone_agree : (first now : T) (xs : List Section) (stop : Option Section) (views : List (Knows T)) (id : ℕ) (v : Knows T) → A first now xs stop views → get_elem? views id ≡ some v → v.notes.shares ≡ all_shares
      → Agree shows is_sound covers {V = Notes} (λ m. m) first now xs stop (v.notes ∷ [])
  alone_agree first now xs stop views id v r at all = record {
    history = r.history;
    each = single (λ n. 0 < n.shares → W first now xs stop n) v.notes (r.each id v at);
    spent = single (λ n. n.shares ≡ 0 → IsSpent n) v.notes (r.spent id v at);
    shares = omega (arith, all);
    made_once = λ k. one_sum (times_made k) (made_spent k) ∙ r.made_once k;
    tried_once = one_sum (λ n. length (tried n)) tried_spent ∙ r.tried_once;
  }
    where
      single : (P : Notes → Type 0) (n : Notes) → P n → (j : ℕ) (a : Notes) → get_elem? (n ∷ []) j ≡ some a → P a
      single P n h zero a e = subst P (some-injective n a e) h
      single P n h (suc j) a e = absurd (mathlib.Core.Option.some-ne-none a (sym e))

      none_else : (j : ℕ) (b : Knows T) → j ≢ id → get_elem? views j ≡ some b → b.notes.shares ≡ 0
      none_else = others_nothing (λ (x : Knows T). (notes_in x).shares) views id v at (r.shares ∙ sym all)

      one_sum : (f : Notes → ℕ) → ((n : Notes) → IsSpent n → f n ≡ 0) → sum_by f (v.notes ∷ []) ≡ sum_by (λ x. f (notes_in x)) views
      one_sum f nothing = let h = sum_alone (λ (x : Knows T). f (notes_in x)) views id v at (λ j b n at'. nothing b.notes (r.spent j b at' (none_else j b n at'))) in omega arith
