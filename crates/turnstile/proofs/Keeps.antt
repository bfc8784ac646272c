-- Each kind of step keeps the rule of the table.
use Rattle.std.proofs.Common.{◌≡◌, ◌≢◌, ℕ, zero, suc, ◌+◌, ◌*◌, ◌%◌, ◌<◌, ◌≤◌, Bool, true, false, cond, List, [], ◌∷◌, ◌++◌, length, set, eqb, sym, refl, ap, ◌∙◌, subst, arith, length-append}
use Rattle.std.specs.Prelude.{Option, Some, None, is_some, IfSome, MatchOption, sum_by, slice_index, slice_set, slice_get}
use mathlib.Core.Option.{some, none, some-injective, some-ne-none}
use lib.ListN.{get_elem?}
use prog.Atomic.{either}
use Rattle.atomic_table.specs.Table.{State, Step, step, Act, keeps, takes, gives, stepped, put_back, rest, Valid, carried_after, Allows, Splits, Joins, opening, Final, Seen}
use Rattle.atomic_table.proofs.Lists.{exchanged, set_again, set_else}
use Rattle.forest_model.specs.Covers.{Weakens}
use Rattle.forest_model.specs.State.{Durable}
use Rattle.forest_model.specs.Notes.{place_of}
use Rattle.forest_model.specs.History.{IsNoted, AgreesWith, IsSpent, durables_from, Agree, Enters, Closes, all_shares, Updates, UpdatesSoundly, Keeps, KeepsSoundly, Stops, StopsSoundly, Starts}
use Rattle.forest_model.specs.declared.held.Point.{Point}
use Rattle.forest_model.specs.declared.held.Deed.{Deed}
use Rattle.forest_model.specs.declared.held.Deed.TheVariants.{Changed, Same, Stopped}
use Rattle.forest_model.specs.declared.held.Section.{Section}
use Rattle.forest_model.specs.declared.call.Call.{Call}
use Rattle.forest_model.specs.declared.call.Reply.{Reply}
use Rattle.turnstile.specs.Noting.{section}
use Rattle.turnstile.specs.Rule.{Kept, IsSeated, IsPlaced, busy_number, EntersOrLooks, Looks, Leaves, left_with, notes_in, gives_share, has_share, takes_in, nothing_left, first_knows, Mine}
use Rattle.turnstile.specs.declared.berth.Berth.{Berth}
use Rattle.turnstile.specs.declared.berth.Knows.{Knows}
use Rattle.turnstile.proofs.Lists.{sum_set, sum_snoc, at_most_sum, sum_alone, others_nothing, each_set, each_snoc}
use Rattle.turnstile.proofs.Histories.{no_stop, same_fall, own_stop, changed_noted, changed_section, changed_own, changed_history, same_noted, same_own, same_history, stopped_noted, stopped_section, stopped_own, stopped_history}
use Rattle.turnstile.proofs.Agrees.{once, makes, rewritten, left_agree, split_agree, join_agree, alone_agree}
use Rattle.turnstile.proofs.Knowing.{enters, closes}
use Rattle.std.proofs.lemmas.Bool.Decides.{nat_tests}

pub some_is : {X : Type 0} (a b : X) → Some a ≡ Some b → a ≡ b
some_is a b e = cc

-- 1 of a pass that is inside
abbrev flag : {T : Type 0} → Knows T → ℕ
flag v = cond (is_some v.taken) 1 0

flag_some : {T : Type 0} (o : Option T) (t : T) → o ≡ Some t → cond {A = ℕ} (is_some o) 1 0 ≡ 1
flag_some o t e = ap (λ z. cond {A = ℕ} (is_some z) 1 0) e

flag_none : {T : Type 0} (o : Option T) → cond {A = ℕ} (is_some o) 1 0 ≡ 0 → o ≡ None
flag_none None h = refl
flag_none (Some t) h = absurd (omega arith)

must_busy : (b : Bool) → 1 ≤ busy_number b → b ≡ true
must_busy true h = refl
must_busy false h = absurd (omega arith)

alive_first : {T : Type 0} (o : Option T) (f : T) (A : Type 0) (B : T → Type 0) → o ≡ Some f → MatchOption o A B → B f
alive_first o f A B e h = subst (λ z. MatchOption z A B) e h

abbrev slot_of : {T : Type 0} → List (ℕ × Berth T) → Option (Berth T)
slot_of [] = None
slot_of (x ∷ xs) = Some x.1

abbrev head_of : List Deed → Option Deed
head_of [] = None
head_of (x ∷ xs) = Some x

-- the next place is made once more
once_more : (k c p : ℕ) → p ≡ suc c → once k (suc c) ≡ once k c + cond (eqb p k) 1 0
once_more k c p e = grind (arith, nat_tests)

module _ {T : Type 0} (shows : T → Point) (is_sound : T → Type 0) (covers : T → ℕ → List Durable → Type 0) where
  abbrev St : Type 0
  St = State (Berth T) (Knows T)

  abbrev K : T → St → Type 0
  K = Kept shows is_sound covers

  -- a load
  pub looks : (first : T) (slots id : ℕ) (me : Mine T) → me.0.first ≡ Some first → Allows (K first) slots id me 0 (λ n. n) (Looks shows is_sound covers (step slots 0 0 0 none) me)
  looks first slots id me alive s r len at bound = (
    me.0,
    keeps,
    tt,
    subst (K first) (λ i. record { words = words i; homes = s.homes; views = views i }) r,
    (refl, (let h = at_most_sum (λ (x : Knows T). (notes_in x).shares) s.views id me.0 at in let k = r.agree.shares in omega arith)),
  )
    where
      views : s.views ≡ set s.views id me.0
      views = sym (set_again s.views id me.0 at)

      words : s.words ≡ slice_set s.words 0 (slice_index s.words 0)
      words = subst (λ (z : List ℕ). z ≡ slice_set z 0 (slice_index z 0)) (sym r.word) refl

  alive_by : (first now : T) (v : Knows T) → v.first ≡ Some first → IsSeated shows is_sound covers first now v → 0 < v.notes.shares
  alive_by first now v e h = (alive_first v.first first (v.taken ≡ None) (λ f. (f ≡ first) × (0 < v.notes.shares)) e h.0).1

  seated : (first now : T) (v : Knows T) → v.first ≡ Some first → 0 < v.notes.shares → IfSome v.taken (λ x. x ≡ now) → IsSeated shows is_sound covers first now v
  seated first now v e alive t = (subst (λ o. MatchOption o (v.taken ≡ None) (λ f. (f ≡ first) × (0 < v.notes.shares))) (sym e) (refl, alive), t)

  -- the compare and exchange: the value is taken, or nothing changes
  pub enters_ok : (first : T) (slots id old : ℕ) (me : Mine T) → me.0.first ≡ Some first → me.0.taken ≡ None → me.1 ≡ [] → old % 2 ≡ 0
      → Allows (K first) slots id me 0 (λ n. either (eqb n old) (old + 1) n) (EntersOrLooks shows is_sound covers (step slots 0 old (old + 1) none) me)
  enters_ok first slots id old me alive out empty even s r len at bound = exchanged n old (old + 1) F hit miss
    where
      n : ℕ
      n = slice_index s.words 0

      F : ℕ → Type 0
      F m = (w : Knows T) × (a : Act (Berth T)) × Valid s.homes me.1 a × K first (stepped s 0 m id me.1 w a) × EntersOrLooks shows is_sound covers (step slots 0 old (old + 1) none) me n (w, carried_after me.1 a)

      number : n ≡ 2 * length r.updates + busy_number r.busy
      number = ap (λ z. slice_index z 0) r.word

      views : s.views ≡ set s.views id me.0
      views = sym (set_again s.views id me.0 at)

      words : s.words ≡ slice_set s.words 0 (slice_index s.words 0)
      words = subst (λ (z : List ℕ). z ≡ slice_set z 0 (slice_index z 0)) (sym r.word) refl

      not_busy : (b : Bool) → n ≡ 2 * length r.updates + busy_number b → n ≡ old → b ≡ false
      not_busy true k e = absurd (omega arith)
      not_busy false k e = refl

      miss : n ≢ old → F n
      miss ne = (
        me.0,
        keeps,
        tt,
        subst (K first) (λ i. record { words = words i; homes = s.homes; views = views i }) r,
        ((λ e. absurd (ne e)), (λ _. refl)),
      )

      taken_now : Knows T
      taken_now = record (me.0) { taken = Some r.now }

      hit : n ≡ old → F (old + 1)
      hit e =
          let free : r.busy ≡ false = not_busy r.busy number e in
          let home = subst (λ b. IsPlaced b r.now s.homes) free r.placed in
          let is_alive = alive_by first r.now me.0 alive (r.views id me.0 at) in
          let word0 : s.words ≡ n ∷ [] = subst (λ (z : List ℕ). z ≡ slice_index z 0 ∷ []) (sym r.word) refl in
          let twice : n ≡ 2 * length r.updates + 0 = number ∙ ap (λ b. 2 * length r.updates + busy_number b) free in
          let none_in : sum_by flag s.views ≡ 0 = r.inside ∙ ap busy_number free in (
            taken_now,
            takes 0 home.0,
            ap (λ z. get_elem? z 0) home.2,
            record {
              now = r.now;
              updates = r.updates;
              stop = r.stop;
              busy = true;
              word = ap (λ z. slice_set z 0 (old + 1)) word0 ∙ ap (λ z. z ∷ []) (omega arith);
              placed = ap (λ z. slice_set z 0 none) home.2;
              inside = let h = sum_set flag s.views id me.0 taken_now at in let q : flag me.0 ≡ 0 = ap (λ z. cond {A = ℕ} (is_some z) 1 0) out in omega arith;
              views = each_set (λ j (a : Knows T). IsSeated shows is_sound covers first r.now a) s.views id taken_now (seated first r.now taken_now alive is_alive refl) r.views;
              agree = rewritten shows is_sound covers first r.now r.updates r.stop s.views id me.0 taken_now r.agree at refl;
            },
            (
              (λ _. record {
                taken = r.now;
                berth = home.0;
                value = home.1;
                carried = refl;
                view = refl;
                told = λ f k. subst (λ z. Enters shows is_sound covers z r.now me.0.notes) (some_is first f (sym alive ∙ k))
                    (enters shows is_sound covers first r.now r.updates r.stop me.0.notes r.agree.history (r.agree.each id me.0 at is_alive));
              }),
              (λ ne. absurd (ne e)),
            ),
          )

  -- the rule after a leaving
  left_kept : (first value : T) (s : St) (r : K first s) (id : ℕ) (me : Mine T) (berth : Berth T) (xs : List Section) (stop : Option Section) (m : ℕ) (sec : Section)
      → me.0.first ≡ Some first → me.0.taken ≡ Some r.now → me.1 ≡ (0, berth) ∷ [] → berth.value ≡ Some value → get_elem? s.views id ≡ some me.0 → m ≡ 2 * length xs
      → Agree shows is_sound covers {V = Knows T} notes_in first value xs stop (set s.views id (left_with shows is_sound covers me.0 sec))
      → K first (stepped s 0 m id me.1 (left_with shows is_sound covers me.0 sec) gives)
  left_kept first value s r id me berth xs stop m sec alive took carried has at word agree = record {
    now = value;
    updates = xs;
    stop = stop;
    busy = false;
    word = ap (λ z. slice_set z 0 m) r.word ∙ ap (λ z. z ∷ []) (omega arith);
    placed = (berth, has, ap (λ z. put_back z me.1) home ∙ ap (put_back (none ∷ [])) carried);
    inside = nobody;
    views = λ j a at'. let free = flag_none a.taken (let h = at_most_sum flag views j a at' in omega (arith, nobody)) in (
      each_set (λ k (b : Knows T). MatchOption b.first (b.taken ≡ None) (λ f. (f ≡ first) × (0 < b.notes.shares))) s.views id after
          (seated first r.now after alive (alive_by first r.now me.0 alive (r.views id me.0 at)) tt).0 (λ k b h. (r.views k b h).0) j a at',
      subst (λ o. IfSome o (λ x. x ≡ value)) (sym free) tt,
    );
    agree = agree;
  }
    where
      after : Knows T
      after = left_with shows is_sound covers me.0 sec

      views : List (Knows T)
      views = set s.views id after

      one : flag me.0 ≡ 1
      one = flag_some me.0.taken r.now took

      is_busy : r.busy ≡ true
      is_busy = must_busy r.busy (let h = at_most_sum flag s.views id me.0 at in let k = r.inside in omega (arith, one))

      home : s.homes ≡ none ∷ []
      home = subst (λ b. IsPlaced b r.now s.homes) is_busy r.placed

      nobody : sum_by flag views ≡ 0
      nobody = let h = sum_set flag s.views id me.0 after at in let k : sum_by flag s.views ≡ 1 = r.inside ∙ ap busy_number is_busy in omega (arith, one)

  -- what a leaving tells
  left_told : (st : Step (Berth T)) (me : Mine T) (n : ℕ) (berth : Berth T) (taken value : T) (deed : Deed) → me.0.taken ≡ Some taken → me.1 ≡ (0, berth) ∷ [] → berth.value ≡ Some value → berth.deed.items ≡ deed ∷ []
      → n ≡ 2 * place_of (shows taken) + 1 → Leaves shows is_sound covers st me n (left_with shows is_sound covers me.0 (section (shows taken) (shows value) deed), rest me.1)
  left_told st me n berth taken value deed e1 e2 e3 e4 e5 berth' taken' value' deed' k1 k2 k3 k4 =
      let t : taken ≡ taken' = some_is taken taken' (sym e1 ∙ k1) in
      let b : berth ≡ berth' = some_is berth berth' (ap slot_of (sym e2 ∙ k2)) in
      let v : value ≡ value' = some_is value value' (sym e3 ∙ (ap (λ z. z.value) b ∙ k3)) in
      let d : deed ≡ deed' = some_is deed deed' (ap head_of (sym e4 ∙ (ap (λ z. z.deed.items) b ∙ k4))) in (
        e5 ∙ ap (λ z. 2 * place_of (shows z) + 1) t,
        ap rest e2,
        (λ i. left_with shows is_sound covers me.0 (section (shows (t i)) (shows (v i)) (d i))),
      )

  found_odd : (first : T) (s : St) (r : K first s) (id : ℕ) (me : Mine T) → me.0.taken ≡ Some r.now → get_elem? s.views id ≡ some me.0 → slice_index s.words 0 ≡ 2 * length r.updates + 1
  found_odd first s r id me took at =
      let one = flag_some me.0.taken r.now took in
      let busy : r.busy ≡ true = must_busy r.busy (let h = at_most_sum flag s.views id me.0 at in let k = r.inside in omega (arith, one)) in
      ap (λ z. slice_index z 0) r.word ∙ ap (λ b. 2 * length r.updates + busy_number b) busy

  is_now : (first : T) (s : St) (r : K first s) (id : ℕ) (me : Mine T) (taken : T) → me.0.taken ≡ Some taken → get_elem? s.views id ≡ some me.0 → taken ≡ r.now
  is_now first s r id me taken e at = subst (λ o. IfSome o (λ x. x ≡ r.now)) e (r.views id me.0 at).1

  module _ (weakens : (v : T) → Weakens (covers v)) where
    pub changed_ok : (first : T) (slots id : ℕ) (me : Mine T) (berth : Berth T) (taken value : T) (call : Call) (reply : Reply) → me.0.first ≡ Some first → me.0.taken ≡ Some taken → me.1 ≡ (0, berth) ∷ [] → berth.value ≡ Some value
        → berth.deed.items ≡ Changed call reply ∷ [] → Updates shows is_sound covers taken value → (is_sound first → UpdatesSoundly shows is_sound covers taken value call reply)
        → Allows (K first) slots id me 0 (λ n. (n + 1) % 18446744073709551616) (Leaves shows is_sound covers (step slots 0 1 0 none) me)
    changed_ok first slots id me berth taken value call reply alive took carried has deed u0 us0 s r len at bound =
        let same : taken ≡ r.now = is_now first s r id me taken took at in
        let took' : me.0.taken ≡ Some r.now = took ∙ ap Some same in
        let u : Updates shows is_sound covers r.now value = subst (λ z. Updates shows is_sound covers z value) same u0 in
        let us : is_sound first → UpdatesSoundly shows is_sound covers r.now value call reply = λ sd. subst (λ z. UpdatesSoundly shows is_sound covers z value call reply) same (us0 sd) in
        let nostop : r.stop ≡ None = no_stop (shows r.now).stopped r.stop u.running r.agree.history.last.running in
        let agree : Agree shows is_sound covers {V = Knows T} notes_in first r.now r.updates None s.views = subst (λ z. Agree shows is_sound covers {V = Knows T} notes_in first r.now r.updates z s.views) nostop r.agree in
        let sec : Section = section (shows r.now) (shows value) (Changed call reply) in
        let xs : List Section = r.updates ++ sec ∷ [] in
        let longer : length xs ≡ suc (length r.updates) = omega (arith, length-append r.updates (sec ∷ [])) in
        let hist = changed_history shows is_sound covers weakens first r.now value r.updates call reply agree.history u us in
        let moves = changed_noted shows is_sound covers weakens first r.now value r.updates call reply agree.history u us in
        let odd = found_odd first s r id me took' at in
        let placed = r.agree.history.last.place in
        let made : (k : ℕ) → once k (length xs) ≡ once k (length r.updates) + makes k sec = λ k. ap (once k) longer ∙ once_more k (length r.updates) (place_of (shows value)) (omega (arith, u.place, placed)) in
        let room = u.room in (
          left_with shows is_sound covers me.0 sec,
          gives,
          tt,
          left_kept first value s r id me berth xs None ((slice_index s.words 0 + 1) % 18446744073709551616) sec alive took' carried has at (omega (arith, odd, longer, room, placed))
              (left_agree shows is_sound covers first r.now value r.updates xs None None s.views id me.0 (left_with shows is_sound covers me.0 sec) sec agree at (alive_by first r.now me.0 alive (r.views id me.0 at)) refl hist moves
              (changed_section shows is_sound covers weakens first r.now value r.updates call reply agree.history u us) (moves (shows r.now) agree.history.last.noted) hist.last.noted
              (changed_own shows is_sound covers weakens first r.now value r.updates call reply agree.history u us) made (omega arith)),
          left_told (step slots 0 1 0 none) me (slice_index s.words 0) berth r.now value (Changed call reply) took' carried has deed (odd ∙ ap (λ k. 2 * k + 1) (sym placed)),
        )

    pub same_ok : (first : T) (slots id : ℕ) (me : Mine T) (berth : Berth T) (taken value : T) → me.0.first ≡ Some first → me.0.taken ≡ Some taken → me.1 ≡ (0, berth) ∷ [] → berth.value ≡ Some value
        → berth.deed.items ≡ Same ∷ [] → Keeps shows is_sound covers taken value → (is_sound first → KeepsSoundly shows is_sound covers taken value)
        → Allows (K first) slots id me 0 (λ n. (n + 18446744073709551615) % 18446744073709551616) (Leaves shows is_sound covers (step slots 0 1 0 none) me)
    same_ok first slots id me berth taken value alive took carried has deed u0 us0 s r len at bound =
        let same : taken ≡ r.now = is_now first s r id me taken took at in
        let took' : me.0.taken ≡ Some r.now = took ∙ ap Some same in
        let u : Keeps shows is_sound covers r.now value = subst (λ z. Keeps shows is_sound covers z value) same u0 in
        let us : is_sound first → KeepsSoundly shows is_sound covers r.now value = λ sd. subst (λ z. KeepsSoundly shows is_sound covers z value) same (us0 sd) in
        let agree = r.agree in
        let sec : Section = section (shows r.now) (shows value) Same in
        let hist = same_history shows is_sound covers weakens first r.now value r.updates r.stop agree.history u us in
        let moves = same_noted shows is_sound covers weakens first r.now value r.updates r.stop agree.history u us in
        let odd = found_odd first s r id me took' at in
        let placed = r.agree.history.last.place in (
          left_with shows is_sound covers me.0 sec,
          gives,
          tt,
          left_kept first value s r id me berth r.updates r.stop ((slice_index s.words 0 + 18446744073709551615) % 18446744073709551616) sec alive took' carried has at (omega (arith, odd, bound))
              (left_agree shows is_sound covers first r.now value r.updates r.updates r.stop r.stop s.views id me.0 (left_with shows is_sound covers me.0 sec) sec agree at (alive_by first r.now me.0 alive (r.views id me.0 at)) refl hist moves
              (λ x h. h) (moves (shows r.now) agree.history.last.noted) hist.last.noted
              (same_own shows is_sound covers weakens first r.now value r.updates r.stop agree.history u us) (λ k. omega arith) (omega arith)),
          left_told (step slots 0 1 0 none) me (slice_index s.words 0) berth r.now value Same took' carried has deed (odd ∙ ap (λ k. 2 * k + 1) (sym placed)),
        )

    pub stopped_ok : (first : T) (slots id : ℕ) (me : Mine T) (berth : Berth T) (taken value : T) (call : Call) → me.0.first ≡ Some first → me.0.taken ≡ Some taken → me.1 ≡ (0, berth) ∷ [] → berth.value ≡ Some value
        → berth.deed.items ≡ Stopped call ∷ [] → Stops shows is_sound covers taken value → (is_sound first → StopsSoundly shows is_sound covers taken value call)
        → Allows (K first) slots id me 0 (λ n. (n + 18446744073709551615) % 18446744073709551616) (Leaves shows is_sound covers (step slots 0 1 0 none) me)
    stopped_ok first slots id me berth taken value call alive took carried has deed u0 us0 s r len at bound =
        let same : taken ≡ r.now = is_now first s r id me taken took at in
        let took' : me.0.taken ≡ Some r.now = took ∙ ap Some same in
        let u : Stops shows is_sound covers r.now value = subst (λ z. Stops shows is_sound covers z value) same u0 in
        let us : is_sound first → StopsSoundly shows is_sound covers r.now value call = λ sd. subst (λ z. StopsSoundly shows is_sound covers z value call) same (us0 sd) in
        let nostop : r.stop ≡ None = no_stop (shows r.now).stopped r.stop u.running r.agree.history.last.running in
        let agree : Agree shows is_sound covers {V = Knows T} notes_in first r.now r.updates None s.views = subst (λ z. Agree shows is_sound covers {V = Knows T} notes_in first r.now r.updates z s.views) nostop r.agree in
        let sec : Section = section (shows r.now) (shows value) (Stopped call) in
        let hist = stopped_history shows is_sound covers weakens first r.now value r.updates call agree.history u us in
        let moves = stopped_noted shows is_sound covers weakens first r.now value r.updates call agree.history u us in
        let odd = found_odd first s r id me took' at in
        let placed = r.agree.history.last.place in (
          left_with shows is_sound covers me.0 sec,
          gives,
          tt,
          left_kept first value s r id me berth r.updates (Some sec) ((slice_index s.words 0 + 18446744073709551615) % 18446744073709551616) sec alive took' carried has at (omega (arith, odd, bound))
              (left_agree shows is_sound covers first r.now value r.updates r.updates None (Some sec) s.views id me.0 (left_with shows is_sound covers me.0 sec) sec agree at (alive_by first r.now me.0 alive (r.views id me.0 at)) refl hist moves
              (stopped_section shows is_sound covers weakens first r.now value r.updates call agree.history u us) (moves (shows r.now) agree.history.last.noted) hist.last.noted
              (stopped_own shows is_sound covers weakens first r.now value r.updates call agree.history u us) (λ k. omega arith) (omega arith)),
          left_told (step slots 0 1 0 none) me (slice_index s.words 0) berth r.now value (Stopped call) took' carried has deed (odd ∙ ap (λ k. 2 * k + 1) (sym placed)),
        )

  -- a view that is seated stays so with other notes
  pub split_ok : (first : T) (id : ℕ) (v : Knows T) → v.first ≡ Some first → 1 < v.notes.shares → Splits (K first) id v (gives_share v) (has_share v)
  split_ok first id v alive more s r at = record {
    now = r.now;
    updates = r.updates;
    stop = r.stop;
    busy = r.busy;
    word = r.word;
    placed = r.placed;
    inside = let h = sum_set flag s.views id v (gives_share v) at in let k = sum_snoc flag (set s.views id (gives_share v)) (has_share v) in let t = r.inside in omega arith;
    views = each_snoc (IsSeated shows is_sound covers first r.now) (set s.views id (gives_share v)) (has_share v) (seated first r.now (has_share v) alive (omega arith) tt)
        (each_set (λ j (a : Knows T). IsSeated shows is_sound covers first r.now a) s.views id (gives_share v) (seated first r.now (gives_share v) alive (omega arith) (r.views id v at).1) r.views);
    agree = split_agree shows is_sound covers first r.now r.updates r.stop s.views id v r.agree at more;
  }

  pub join_ok : (first : T) (id other : ℕ) (v w : Knows T) → v.first ≡ Some first → w.first ≡ Some first → w.taken ≡ None → Joins (K first) id v other w (takes_in v w) nothing_left
  join_ok first id other v w alive alive' out s r at apart at' =
      let there : get_elem? s.views other ≡ some w = sym (set_else s.views id other (takes_in v w) apart) ∙ at' in
      let here = alive_by first r.now v alive (r.views id v at) in
      let with = alive_by first r.now w alive' (r.views other w there) in record {
        now = r.now;
        updates = r.updates;
        stop = r.stop;
        busy = r.busy;
        word = r.word;
        placed = r.placed;
        inside = let h = sum_set flag s.views id v (takes_in v w) at in let k = sum_set flag (set s.views id (takes_in v w)) other w nothing_left at' in
            let q : flag w ≡ 0 = ap (λ z. cond {A = ℕ} (is_some z) 1 0) out in let t = r.inside in omega arith;
        views = each_set (λ j (a : Knows T). IsSeated shows is_sound covers first r.now a) (set s.views id (takes_in v w)) other nothing_left (refl, tt)
            (each_set (λ j (a : Knows T). IsSeated shows is_sound covers first r.now a) s.views id (takes_in v w) (seated first r.now (takes_in v w) alive (omega arith) (r.views id v at).1) r.views);
        agree = join_agree shows is_sound covers first r.now r.updates r.stop s.views id other v w r.agree at apart at' here with;
      }

  -- a pass without shares has taken nothing
  idle_out : (first now : T) (v : Knows T) → IsSeated shows is_sound covers first now v → v.notes.shares ≡ 0 → v.taken ≡ None
  idle_out first now v h idle = by v.first h.0
    where
      by : (o : Option T) → MatchOption o (v.taken ≡ None) (λ f. (f ≡ first) × (0 < v.notes.shares)) → v.taken ≡ None
      by None k = k
      by (Some f) k = absurd (omega (arith, k.1, idle))

  pub close_ok : (first : T) (id : ℕ) (v : Knows T) (ws : List ℕ) (xs : List (Berth T)) → v.taken ≡ None → v.notes.shares ≡ all_shares → Final (Seen (K first) id v) ws xs
      → (berth : Berth T) × (now : T) × (get_elem? xs 0 ≡ some berth) × (berth.value ≡ Some now) × Closes shows is_sound covers first now v.notes
  close_ok first id v ws xs out all f =
      let s = f.0 in
      let r = f.1.0 in
      let at = f.1.1 in
      let idle = others_nothing (λ (x : Knows T). (notes_in x).shares) s.views id v at (r.agree.shares ∙ sym all) in
      let own : flag v ≡ 0 = ap (λ z. cond {A = ℕ} (is_some z) 1 0) out in
      let none_in : sum_by flag s.views ≡ flag v = sum_alone flag s.views id v at (λ j b n at'. ap (λ z. cond {A = ℕ} (is_some z) 1 0) (idle_out first r.now b (r.views j b at') (idle j b n at'))) in
      let free : r.busy ≡ false = not_inside r.busy (sym r.inside ∙ (none_in ∙ own)) in
      let home = subst (λ b. IsPlaced b r.now s.homes) free r.placed in (
        home.0,
        r.now,
        f.4 0 home.0 (ap (λ z. get_elem? z 0) home.2),
        home.1,
        closes shows is_sound covers first r.now r.updates r.stop v.notes (omega (arith, all)) (alone_agree shows is_sound covers first r.now r.updates r.stop s.views id v r.agree at all),
      )
    where
      not_inside : (b : Bool) → busy_number b ≡ 0 → b ≡ false
      not_inside true h = absurd (omega arith)
      not_inside false h = refl

  -- the rule at the start
  pub new_ok : (first : T) (berth : Berth T) → Starts shows is_sound covers first → berth.value ≡ Some first → K first (opening (0 ∷ []) (berth ∷ []) (first_knows shows is_sound covers first))
  new_ok first berth h has = record {
    now = first;
    updates = [];
    stop = None;
    busy = false;
    word = refl;
    placed = (berth, has, refl);
    inside = refl;
    views = single (λ v. IsSeated shows is_sound covers first first v) (first_knows shows is_sound covers first) ((refl, omega arith), tt);
    agree = record {
      history = record { start = h.place; numbered = tt; run = λ sd. refl; last = record { place = h.place; noted = starts first h; running = ap is_some h.running; base = λ sd e. h.base sd; sound = λ sd. sd } };
      each = single (λ (v : Knows T). 0 < v.notes.shares → AgreesWith shows is_sound covers first first [] None v.notes) (first_knows shows is_sound covers first) (λ pos. record { start = refl; points = (starts first h, tt); sections = tt });
      spent = single (λ (v : Knows T). v.notes.shares ≡ 0 → IsSpent v.notes) (first_knows shows is_sound covers first) (λ idle. (refl, refl));
      shares = refl;
      made_once = λ k. sym (never k);
      tried_once = refl;
    };
  }
    where
      single : (P : Knows T → Type 0) (v : Knows T) → P v → (j : ℕ) (a : Knows T) → get_elem? (v ∷ []) j ≡ some a → P a
      single P v q zero a e = subst P (some-injective v a e) q
      single P v q (suc j) a e = absurd (some-ne-none a (sym e))

      never : (k : ℕ) → once k 0 ≡ 0
      never k = grind (arith, nat_tests)

      starts : (f : T) → Starts shows is_sound covers f → IsNoted shows is_sound covers f f [] None (shows f)
      starts f q = record {
        place = omega (arith, q.place);
        since_start = same_fall (shows f);
        until_now = same_fall (shows f);
        stopped = own_stop (shows f).stopped;
        stands = λ sd. record { when_made = shows f; there = ap (λ z. slice_get (shows f ∷ []) z) q.place; state = refl; blocks = λ t. refl };
        covered = λ sd. subst (λ z. covers f (shows f).clock (durables_from z (shows f ∷ []) ++ [])) (sym q.place) (q.own sd);
      }

  pub new_by : (first value : T) (berths : List (Berth T)) (berth : Berth T) → first ≡ value → berths ≡ berth ∷ [] → Starts shows is_sound covers value → berth.value ≡ Some value
      → K first (opening (0 ∷ []) berths (first_knows shows is_sound covers first))
  new_by first value berths berth e f h has =
      subst (λ b. K first (opening (0 ∷ []) b (first_knows shows is_sound covers first))) (sym f) (new_ok first berth (subst (Starts shows is_sound covers) (sym e) h) (has ∙ ap Some (sym e)))
