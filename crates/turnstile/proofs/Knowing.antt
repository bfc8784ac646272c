-- What a pass knows is what the history has, and the updates after it lead to the value as it stands.
use Rattle.std.proofs.Common.{◌≡◌, ℕ, zero, suc, ◌<◌, ◌≤◌, Bool, true, false, cond, List, [], ◌∷◌, length, drop, sym, refl, ap, ◌∙◌, subst, arith}
use Rattle.std.specs.Prelude.{Option, Some, None, slice_get, count_by, find, ◌&&◌, ◌==◌, nat_le, option_map}
use Rattle.std.specs.List.{AllByRecursion, flat_map}
use Rattle.std.proofs.lemmas.List.Sums.{sum_by-cons}
use Rattle.std.proofs.lemmas.Bool.{eqb-true, eq-eqb}
use Rattle.std.proofs.lemmas.Bool.Decides.{nat_tests}
use Rattle.forest_model.specs.State.{Durable}
use Rattle.forest_model.specs.Notes.{place_of, is_changed, ends_of, points_of}
use Rattle.forest_model.specs.History.{Run, history, IsNoted, IsHistory, AgreesWith, Agree, Enters, Closes}
use Rattle.forest_model.specs.declared.held.Point.{Point}
use Rattle.forest_model.specs.declared.held.Section.{Section}
use Rattle.forest_model.specs.declared.held.Notes.{Notes}
use Rattle.forest_model.specs.declared.state.State.{State}
use Rattle.turnstile.proofs.Lists.{all_second}

false_true : (b : Bool) → b ≡ false → b ≡ true → ⊥
false_true b e k = cc

module _ {X : Type 0} where
  some_same : (a b : X) → Some a ≡ Some b → a ≡ b
  some_same a b e = cc

  none_some : (a : X) → None ≡ Some a → ⊥
  none_some a e = cc

  found_by : (P : X → Type 0) (test : X → Bool) (x q : X) (o : Option X) (b : Bool) → test x ≡ b → P x → (o ≡ Some q → P q × (test q ≡ true)) → cond b (Some x) o ≡ Some q → P q × (test q ≡ true)
  found_by P test x q o true is p rest e = subst (λ z. P z × (test z ≡ true)) (some_same x q e) (p, is)
  found_by P test x q o false is p rest e = rest e

  -- what is found has what all have, and passes the test
  found : (P : X → Type 0) (test : X → Bool) (xs : List X) → AllByRecursion P xs → (q : X) → find test xs ≡ Some q → P q × (test q ≡ true)
  found P test [] all q e = absurd (none_some q e)
  found P test (x ∷ xs) all q e = found_by P test x q (find test xs) (test x) refl all.0 (found P test xs all.1 q) e

  passes_by : (test : X → Bool) (x : X) (xs : List X) (o : Option X) (b : Bool) → test x ≡ b → (o ≡ None → AllByRecursion (λ y. test y ≡ false) xs) → cond b (Some x) o ≡ None → AllByRecursion (λ y. test y ≡ false) (x ∷ xs)
  passes_by test x xs o true is rest e = absurd (none_some x (sym e))
  passes_by test x xs o false is rest e = (is, rest e)

  -- where nothing is found, none passes
  none_passes : (test : X → Bool) (xs : List X) → find test xs ≡ None → AllByRecursion (λ y. test y ≡ false) xs
  none_passes test [] e = tt
  none_passes test (x ∷ xs) e = passes_by test x xs (find test xs) (test x) refl (none_passes test xs) e

-- from each place of the history the updates behind it lead to its end
run_from : (start : Point) (xs : List Section) (last : State) → Run start.state xs last → (k : ℕ) (m : Point) → slice_get (history start xs) k ≡ Some m → Run m.state (drop k xs) last
run_from start xs last r zero m e = subst (λ (z : Point). Run z.state xs last) (some_same start m e) r
run_from start [] last r (suc k) m e = absurd (none_some m e)
run_from start (x ∷ xs) last r (suc k) m e = run_from x.left xs last r.2 k m e

not_made : (k : ℕ) (s : Section) (c : Bool) → (place_of s.left == k) ≡ false → cond {A = ℕ} (c && (place_of s.left == k)) 1 0 ≡ 0
not_made k s true e = ap (λ b. cond {A = ℕ} b 1 0) e
not_made k s false e = refl

never_made : (k : ℕ) (xs : List Section) → AllByRecursion (λ p. (place_of p == k) ≡ false) (flat_map ends_of xs) → count_by (λ s. is_changed s.deed && (place_of s.left == k)) xs ≡ 0
never_made k [] h = refl
never_made k (x ∷ xs) h = let a = sum_by-cons (λ s. cond {A = ℕ} (is_changed s.deed && (place_of s.left == k)) 1 0) x xs in let b = not_made k x (is_changed x.deed) h.1.0 in let t = never_made k xs h.1.1 in omega arith

mapped : (o : Option Point) (G : State → Type 0) → ((q : Point) → o ≡ Some q → G q.state) → (s : State) → option_map (λ p. p.state) o ≡ Some s → G s
mapped None G f s e = absurd (none_some s e)
mapped (Some q) G f s e = subst G (some_same q.state s e) (f q refl)

mapped_here : (o : Option Point) (r : Option State) → ((q : Point) → o ≡ Some q → Some q.state ≡ r) → (o ≡ None → ⊥) → option_map (λ p. p.state) o ≡ r
mapped_here None r f g = absurd (g refl)
mapped_here (Some q) r f g = f q refl

once_there : (k count : ℕ) → 1 ≤ k → k ≤ count → cond {A = ℕ} (nat_le 1 k && nat_le k count) 1 0 ≡ 1
once_there k count low high = grind (arith, nat_tests)

module _ {T : Type 0} (shows : T → Point) (is_sound : T → Type 0) (covers : T → ℕ → List Durable → Type 0) where
  knows_point : (first now : T) (xs : List Section) (stop : Option Section) (n : Notes) → AgreesWith shows is_sound covers first now xs stop n → is_sound first → (k : ℕ) (q : Point) → find (λ p. place_of p == k) (points_of n) ≡ Some q
      → (k ≤ length xs) × ((m : Point) × (slice_get (history (shows first) xs) k ≡ Some m) × (q.state ≡ m.state))
  knows_point first now xs stop n h sd k q e =
      let t = found (IsNoted shows is_sound covers first now xs stop) (λ p. place_of p == k) (points_of n) h.points q e in
      let at : place_of q ≡ k = eqb-true (place_of q) k t.1 in
      let st = t.0.stands sd in
      let low = t.0.place in (omega arith, (st.when_made, subst (λ z. slice_get (history (shows first) xs) z ≡ Some st.when_made) at st.there, st.state))

  pub enters : (first now : T) (xs : List Section) (stop : Option Section) (n : Notes) → IsHistory shows is_sound covers first now xs stop → AgreesWith shows is_sound covers first now xs stop n → Enters shows is_sound covers first now n
  enters first now xs stop n hist h = record {
    updates = xs;
    stop = stop;
    history = hist;
    agrees = h;
    leads = λ sd k s e. mapped (find (λ p. place_of p == k) (points_of n)) (λ z. (k ≤ length xs) × Run z (drop k xs) (shows now).state)
        (λ q is. let t = knows_point first now xs stop n h sd k q is in (t.0, subst (λ z. Run z (drop k xs) (shows now).state) (sym t.1.2) (run_from (shows first) xs (shows now).state (hist.run sd) k t.1.0 t.1.1))) s e;
  }

  never_lost : (first now : T) (xs : List Section) (stop : Option Section) (n : Notes) → Agree shows is_sound covers {V = Notes} (λ m. m) first now xs stop (n ∷ []) → AgreesWith shows is_sound covers first now xs stop n → (k : ℕ) → k ≤ length xs
      → find (λ p. place_of p == k) (points_of n) ≡ None → ⊥
  never_lost first now xs stop n r h zero low e =
      let none = none_passes (λ p. place_of p == 0) (points_of n) e in
      false_true (place_of n.start == 0) none.0 (eq-eqb (place_of n.start) 0 (ap place_of h.start ∙ r.history.start))
  never_lost first now xs stop n r h (suc k) low e =
      let none = none_passes (λ p. place_of p == suc k) (points_of n) e in
      let never = never_made (suc k) n.sections (all_second (λ p. (place_of p == suc k) ≡ false) n.told (flat_map ends_of n.sections) none.1) in
      let made = r.made_once (suc k) in let there = once_there (suc k) (length xs) (omega arith) low in absurd (omega arith)

  pub closes : (first now : T) (xs : List Section) (stop : Option Section) (n : Notes) → 0 < n.shares → Agree shows is_sound covers {V = Notes} (λ m. m) first now xs stop (n ∷ []) → Closes shows is_sound covers first now n
  closes first now xs stop n alive r = let h = r.each 0 n refl alive in record {
    updates = xs;
    stop = stop;
    agree = r;
    knows = λ sd k low. mapped_here (find (λ p. place_of p == k) (points_of n)) (option_map (λ p. p.state) (slice_get (history (shows first) xs) k))
        (λ q is. let t = knows_point first now xs stop n h sd k q is in ap Some t.1.2 ∙ sym (ap (option_map (λ (p : Point). p.state)) t.1.1))
        (never_lost first now xs stop n r h k low);
  }
