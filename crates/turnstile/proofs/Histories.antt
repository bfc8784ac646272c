-- The three ways to leave lead from a history to a history, and what was noted before stays noted.
use Rattle.std.proofs.Common.{◌≡◌, ℕ, suc, ◌+◌, ◌<◌, ◌≤◌, List, [], ◌∷◌, ◌++◌, map, length, sym, refl, ap, ◌∙◌, subst, ⊎_elim, arith, length-append, append-nil}
use Rattle.std.specs.Prelude.{Option, Some, None, slice_get, IfSome, IsTrue, is_some, Contains}
use Rattle.forest_model.specs.Covers.{Weakens}
use Rattle.forest_model.specs.State.{Durable, durable_of}
use Rattle.forest_model.specs.Step.{step_of}
use Rattle.forest_model.specs.Notes.{place_of, own_durable, is_changed}
use Rattle.forest_model.specs.History.{HaveNotFallen, IsUntroubled, Answers, Run, Numbered, history, durables_from, tried_durables, base_of_deed, base_after, StandsIn, DeedIn, IsSection, IsNoted, IsHistory, Updates, UpdatesSoundly, Keeps, KeepsSoundly, Stops, StopsSoundly}
use Rattle.forest_model.specs.declared.held.Point.{Point}
use Rattle.forest_model.specs.declared.held.Deed.{Deed}
use Rattle.forest_model.specs.declared.held.Deed.TheVariants.{Changed, Same, Stopped}
use Rattle.forest_model.specs.declared.held.Section.{Section}
use Rattle.forest_model.specs.declared.call.Call.{Call}
use Rattle.forest_model.specs.declared.call.Reply.{Reply}
use Rattle.forest_model.specs.declared.state.State.{State}
use Rattle.turnstile.specs.Noting.{section}
use Rattle.turnstile.proofs.Lists.{get_longer, get_last, drop_last, in_drop, drop_snoc, map_snoc, in_first, in_second, in_pair, le_split}

pub same_fall : (p : Point) → HaveNotFallen p p
same_fall p = record { host_faults = omega arith; view_faults = omega arith; clock = omega arith }

pub falls_on : (p q r : Point) → HaveNotFallen p q → HaveNotFallen q r → HaveNotFallen p r
falls_on p q r h k = record { host_faults = omega (arith, h.host_faults, k.host_faults); view_faults = omega (arith, h.view_faults, k.view_faults); clock = omega (arith, h.clock, k.clock) }

not_some : (o : Option ℕ) (c : ℕ) → o ≡ None → o ≡ Some c → ⊥
not_some o c e k = cc

-- where it had not stopped, nobody noted a kept count
unstopped : (o now after : Option ℕ) → now ≡ None → IfSome o (λ c. now ≡ Some c) → IfSome o (λ c. after ≡ Some c)
unstopped None now after e h = tt
unstopped (Some c) now after e h = absurd (not_some now c e h)

as_stopped : (o now after : Option ℕ) → after ≡ now → IfSome o (λ c. now ≡ Some c) → IfSome o (λ c. after ≡ Some c)
as_stopped None now after e h = tt
as_stopped (Some c) now after e h = e ∙ h

pub own_stop : (o : Option ℕ) → IfSome o (λ c. o ≡ Some c)
own_stop None = tt
own_stop (Some c) = refl

not_running : (o : Option ℕ) → IsTrue (is_some o) → o ≡ None → ⊥
not_running None h e = cc
not_running (Some c) h e = cc

pub no_stop : (o : Option ℕ) (stop : Option Section) → o ≡ None → is_some o ≡ is_some stop → stop ≡ None
no_stop o None e h = refl
no_stop None (Some s) e h = cc
no_stop (Some c) (Some s) e h = cc

numbered_snoc : (k : ℕ) (xs : List Section) (s : Section) → Numbered k xs → place_of s.entered ≡ k + length xs → place_of s.left ≡ suc (k + length xs) → IsTrue (is_changed s.deed) → Numbered k (xs ++ s ∷ [])
numbered_snoc k [] s h e l c = (omega arith, omega arith, c, tt)
numbered_snoc k (x ∷ xs) s h e l c = (h.0, h.1, h.2, numbered_snoc (suc k) xs s h.3 (omega arith) (omega arith) c)

run_snoc : (st : State) (xs : List Section) (s : Section) → Run st xs s.entered.state → Answers s.entered.state s.entered.blocks s.deed s.left.state → Run st (xs ++ s ∷ []) s.left.state
run_snoc st [] s h a = (sym h, subst (λ z. Answers z s.entered.blocks s.deed s.left.state) (sym h) a, refl)
run_snoc st (x ∷ xs) s h a = (h.0, h.1, run_snoc x.left.state xs s h.2 a)

base_snoc : (b : ℕ) (xs : List Section) (s : Section) → base_after b (xs ++ s ∷ []) ≡ base_of_deed s.deed (base_after b xs) (length s.left.blocks)
base_snoc b [] s = refl
base_snoc b (x ∷ xs) s = base_snoc (base_of_deed x.deed b (length x.left.blocks)) xs s

pub history_snoc : (start : Point) (xs : List Section) (s : Section) → history start (xs ++ s ∷ []) ≡ history start xs ++ s.left ∷ []
history_snoc start xs s = ap (λ z. start ∷ z) (map_snoc (λ (x : Section). x.left) xs s)

lefts : (xs : List Section) → length (map (λ (x : Section). x.left) xs) ≡ length xs
lefts [] = refl
lefts (x ∷ xs) = ap suc (lefts xs)

pub history_length : (start : Point) (xs : List Section) → length (history start xs) ≡ suc (length xs)
history_length start xs = ap suc (lefts xs)

durables_snoc : (start : Point) (xs : List Section) (s : Section) (k : ℕ) → k ≤ length xs → durables_from k (history start (xs ++ s ∷ [])) ≡ durables_from k (history start xs) ++ own_durable s.left ∷ []
durables_snoc start xs s k h = ap (durables_from k) (history_snoc start xs s) ∙ drop_snoc own_durable (history start xs) s.left k (let l = history_length start xs in omega arith)

stands_longer : (points more : List Point) (start p : Point) → StandsIn points start p → StandsIn (points ++ more) start p
stands_longer points more start p h = record { when_made = h.when_made; there = get_longer points more (place_of p) h.when_made h.there; state = h.state; blocks = h.blocks }

section_longer : (xs : List Section) (s x : Section) (d : Deed) → DeedIn xs None x d → DeedIn (xs ++ s ∷ []) None x d
section_longer xs s x (Changed call reply) h = get_longer xs (s ∷ []) (place_of x.entered) x h
section_longer xs s x Same h = h
section_longer xs s x (Stopped call) h = h

none_is_some : {A : Type 0} (a : A) → None ≡ Some a → ⊥
none_is_some a e = cc

section_stopped : (xs : List Section) (s x : Section) (d : Deed) → DeedIn xs None x d → DeedIn xs (Some s) x d
section_stopped xs s x (Changed call reply) h = h
section_stopped xs s x Same h = h
section_stopped xs s x (Stopped call) h = absurd (none_is_some x h.0)

module _ {T : Type 0} (shows : T → Point) (is_sound : T → Type 0) (covers : T → ℕ → List Durable → Type 0) (weakens : (v : T) → Weakens (covers v)) where
  abbrev N : T → T → List Section → Option Section → Point → Type 0
  N = IsNoted shows is_sound covers

  abbrev H : T → T → List Section → Option Section → Type 0
  H = IsHistory shows is_sound covers

  -- what the value covered since a point's clock, the new value covers with one durable more
  one_more : (first now value : T) (xs : List Section) (p : Point) (d : Durable) → H first now xs None → N first now xs None p → is_sound first
      → ((since : ℕ) (list : List Durable) → since < (shows now).clock → covers now since list → covers value since (list ++ d ∷ []))
      → covers value (shows now).clock (own_durable (shows now) ∷ d ∷ [])
      → covers value p.clock (durables_from (place_of p) (history (shows first) xs) ++ d ∷ [])
  one_more first now value xs p d hist h sd earlier both =
      let list : List Durable = durables_from (place_of p) (history (shows first) xs) in
      let was : covers now p.clock list = subst (covers now p.clock) (append-nil list) (h.covered sd) in
      ⊎_elim (λ (lt : p.clock < (shows now).clock). earlier p.clock list lt was)
      (λ (e : p.clock ≡ (shows now).clock).
      let st = hist.last.noted.stands sd in
      let le : place_of p ≤ place_of (shows now) = omega (arith, h.place, hist.last.place) in
      let inside : Contains list (own_durable (shows now)) = subst (Contains list) (ap durable_of (sym st.state)) (in_drop own_durable (history (shows first) xs) (place_of (shows now)) (place_of p) st.when_made st.there le) in
      subst (λ c. covers value c (list ++ d ∷ [])) (sym e)
      ((weakens value).longer (shows now).clock (own_durable (shows now) ∷ d ∷ []) (list ++ d ∷ [])
      (in_pair (own_durable (shows now)) d (list ++ d ∷ []) (in_first list (d ∷ []) (own_durable (shows now)) inside) (in_second list (d ∷ []) d (0, omega arith, refl))) both))
      (le_split p.clock (shows now).clock h.until_now.clock)

  module _ (first now value : T) (xs : List Section) (call : Call) (reply : Reply) (hist : H first now xs None) (u : Updates shows is_sound covers now value)
      (us : is_sound first → UpdatesSoundly shows is_sound covers now value call reply) where
    abbrev changed : Section
    changed = section (shows now) (shows value) (Changed call reply)

    pub changed_noted : (p : Point) → N first now xs None p → N first value (xs ++ changed ∷ []) None p
    changed_noted p h = record {
      place = omega (arith, h.place, length-append xs (changed ∷ []));
      since_start = h.since_start;
      until_now = falls_on p (shows now) (shows value) h.until_now u.not_fallen;
      stopped = unstopped p.stopped (shows now).stopped (shows value).stopped u.running h.stopped;
      stands = λ sd. subst (λ z. StandsIn z (shows first) p) (sym (history_snoc (shows first) xs changed)) (stands_longer (history (shows first) xs) (shows value ∷ []) (shows first) p (h.stands sd));
      covered = λ sd.
          subst (covers value p.clock) (sym (append-nil (durables_from (place_of p) (history (shows first) (xs ++ changed ∷ []))) ∙ durables_snoc (shows first) xs changed (place_of p) h.place))
          (one_more first now value xs p (own_durable (shows value)) hist h sd (us sd).earlier (us sd).both);
    }

    pub changed_section : (x : Section) → IsSection xs None x → IsSection (xs ++ changed ∷ []) None x
    changed_section x h = record { not_fallen = h.not_fallen; deed = section_longer xs changed x x.deed h.deed }

    pub changed_own : IsSection (xs ++ changed ∷ []) None changed
    changed_own = record { not_fallen = u.not_fallen; deed = get_last xs changed (place_of (shows now)) hist.last.place }

    raised : place_of (shows value) ≡ length (xs ++ changed ∷ [])
    raised = omega (arith, u.place, hist.last.place, length-append xs (changed ∷ []))

    covers_own : is_sound first → covers value (shows value).clock (durables_from (place_of (shows value)) (history (shows first) (xs ++ changed ∷ [])) ++ [])
    covers_own sd =
        let at : place_of (shows value) ≡ length (history (shows first) xs) = omega (arith, u.place, hist.last.place, history_length (shows first) xs) in
        let e : durables_from (place_of (shows value)) (history (shows first) (xs ++ changed ∷ [])) ≡ own_durable (shows value) ∷ [] =
        ap (durables_from (place_of (shows value))) (history_snoc (shows first) xs changed) ∙ ap (map own_durable) (drop_last (history (shows first) xs) (shows value) (place_of (shows value)) at) in
        subst (covers value (shows value).clock) (sym (append-nil _ ∙ e)) (us sd).own

    pub changed_history : H first value (xs ++ changed ∷ []) None
    changed_history = record {
      start = hist.start;
      numbered = numbered_snoc 0 xs changed hist.numbered (omega (arith, hist.last.place)) (omega (arith, u.place, hist.last.place)) refl;
      run = λ sd. run_snoc (shows first).state xs changed (hist.run sd) (us sd).step;
      last = record {
        place = raised;
        noted = record {
          place = omega (arith, raised);
          since_start = falls_on (shows first) (shows now) (shows value) hist.last.noted.since_start u.not_fallen;
          until_now = same_fall (shows value);
          stopped = own_stop (shows value).stopped;
          stands = λ sd. subst (λ z. StandsIn z (shows first) (shows value)) (sym (history_snoc (shows first) xs changed)) record {
            when_made = shows value;
            there = get_last (history (shows first) xs) (shows value) (place_of (shows value)) (omega (arith, u.place, hist.last.place, history_length (shows first) xs));
            state = refl;
            blocks = λ q. refl;
          };
          covered = covers_own;
        };
        running = ap is_some u.goes_on;
        base = λ sd st. (us sd).base ∙ (ap (λ b. base_of_deed (Changed call reply) b (length (shows value).blocks)) (hist.last.base sd u.running) ∙ sym (base_snoc 0 xs changed));
        sound = λ sd. (us sd).sound;
      };
    }

  -- a point at the same place and state as the value's, noted later
  moved_on : (first now value : T) (xs : List Section) (stop : Option Section) → N first value xs stop (shows now) → HaveNotFallen (shows now) (shows value) → place_of (shows value) ≡ place_of (shows now)
      → (is_sound first → (shows value).state ≡ (shows now).state) → (is_sound first → IsUntroubled (shows first) (shows value) → IsUntroubled (shows first) (shows now) × ((shows value).blocks ≡ (shows now).blocks))
      → N first value xs stop (shows value)
  moved_on first now value xs stop h fall place state blocks = record {
    place = omega (arith, h.place, place);
    since_start = falls_on (shows first) (shows now) (shows value) h.since_start fall;
    until_now = same_fall (shows value);
    stopped = own_stop (shows value).stopped;
    stands = λ sd. let st = h.stands sd in record {
      when_made = st.when_made;
      there = ap (slice_get (history (shows first) xs)) place ∙ st.there;
      state = state sd ∙ st.state;
      blocks = λ q. let t = blocks sd q in t.1 ∙ st.blocks t.0;
    };
    covered = λ sd. subst (λ k. covers value (shows value).clock (durables_from k (history (shows first) xs) ++ tried_durables stop)) (sym place)
        ((weakens value).later (shows now).clock (shows value).clock (durables_from (place_of (shows now)) (history (shows first) xs) ++ tried_durables stop) fall.clock (h.covered sd));
  }

  module _ (first now value : T) (xs : List Section) (stop : Option Section) (hist : H first now xs stop) (u : Keeps shows is_sound covers now value)
      (us : is_sound first → KeepsSoundly shows is_sound covers now value) where
    pub same_noted : (p : Point) → N first now xs stop p → N first value xs stop p
    same_noted p h = record {
      place = h.place;
      since_start = h.since_start;
      until_now = falls_on p (shows now) (shows value) h.until_now u.not_fallen;
      stopped = as_stopped p.stopped (shows now).stopped (shows value).stopped u.stopped h.stopped;
      stands = h.stands;
      covered = λ sd. (us sd).earlier p.clock _ h.until_now.clock (h.covered sd);
    }

    pub same_own : IsSection xs stop (section (shows now) (shows value) Same)
    same_own = record { not_fallen = u.not_fallen; deed = u.place }

    quiet : is_sound first → IsUntroubled (shows first) (shows value) → IsUntroubled (shows first) (shows now) × ((shows value).blocks ≡ (shows now).blocks)
    quiet sd q =
        let a = hist.last.noted.since_start in let b = u.not_fallen in
        let host : (shows now).host_faults ≡ (shows first).host_faults = omega (arith, a.host_faults, b.host_faults, q.host_faults) in
        let view : (shows now).view_faults ≡ (shows first).view_faults = omega (arith, a.view_faults, b.view_faults, q.view_faults) in (
          record { running = sym u.stopped ∙ q.running; host_faults = host; view_faults = view },
          (us sd).blocks (q.host_faults ∙ sym host) (q.view_faults ∙ sym view),
        )

    pub same_history : H first value xs stop
    same_history = record {
      start = hist.start;
      numbered = hist.numbered;
      run = λ sd. subst (Run (shows first).state xs) (sym (us sd).state) (hist.run sd);
      last = record {
        place = u.place ∙ hist.last.place;
        noted = moved_on first now value xs stop (same_noted (shows now) hist.last.noted) u.not_fallen u.place (λ sd. (us sd).state) quiet;
        running = ap is_some u.stopped ∙ hist.last.running;
        base = λ sd st. (us sd).base ∙ hist.last.base sd (sym u.stopped ∙ st);
        sound = λ sd. (us sd).sound;
      };
    }

  module _ (first now value : T) (xs : List Section) (call : Call) (hist : H first now xs None) (u : Stops shows is_sound covers now value)
      (us : is_sound first → StopsSoundly shows is_sound covers now value call) where
    abbrev stopping : Section
    stopping = section (shows now) (shows value) (Stopped call)

    abbrev left_by : Durable
    left_by = durable_of (step_of (shows now).state (shows now).blocks call).1

    pub stopped_noted : (p : Point) → N first now xs None p → N first value xs (Some stopping) p
    stopped_noted p h = record {
      place = h.place;
      since_start = h.since_start;
      until_now = falls_on p (shows now) (shows value) h.until_now u.not_fallen;
      stopped = unstopped p.stopped (shows now).stopped (shows value).stopped u.running h.stopped;
      stands = h.stands;
      covered = λ sd. one_more first now value xs p left_by hist h sd (us sd).earlier (us sd).both;
    }

    pub stopped_section : (x : Section) → IsSection xs None x → IsSection xs (Some stopping) x
    stopped_section x h = record { not_fallen = h.not_fallen; deed = section_stopped xs stopping x x.deed h.deed }

    pub stopped_own : IsSection xs (Some stopping) stopping
    stopped_own = record { not_fallen = u.not_fallen; deed = (refl, u.place) }

    pub stopped_history : H first value xs (Some stopping)
    stopped_history = record {
      start = hist.start;
      numbered = hist.numbered;
      run = λ sd. subst (Run (shows first).state xs) (sym (us sd).state) (hist.run sd);
      last = record {
        place = u.place ∙ hist.last.place;
        noted = moved_on first now value xs (Some stopping) (stopped_noted (shows now) hist.last.noted) u.not_fallen u.place (λ sd. (us sd).state) (λ sd q. absurd (not_running (shows value).stopped u.stopped q.running));
        running = u.stopped;
        base = λ sd st. absurd (not_running (shows value).stopped u.stopped st);
        sound = λ sd. (us sd).sound;
      };
    }
