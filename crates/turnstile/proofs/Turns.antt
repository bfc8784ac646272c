-- A sound value meets what entering a turnstile and each leaving asks.
use Rattle.std.proofs.Common.{◌≡◌, ℕ, ◌≤◌, [], ◌∷◌, sym, refl, subst, ⊎_elim, arith, false}
use Rattle.std.specs.Prelude.{Contains}
use Rattle.forest_model.specs.State.{Durable}
use Rattle.forest_model.specs.History.{Starts, Updates, UpdatesSoundly, Keeps, KeepsSoundly, Stops, StopsSoundly}
use Rattle.forest_model.specs.declared.call.StoreRef.{StoreRef}
use Rattle.forest_model.specs.declared.call.Call.{Call}
use Rattle.forest_model.specs.declared.call.Call.TheVariants.{Begin, Switch}
use Rattle.forest_model.specs.declared.call.Reply.{Reply}
use Rattle.forest_model.specs.declared.call.Reply.TheVariants.{Begun, Switched}
use Rattle.turnstile.specs.Turning.{turning, TellsSwitched, covers_told, switched_durable}
use Rattle.turnstile.proofs.Lists.{in_first, in_second}

abbrev at_default : StoreRef
at_default = record { store = 0; read_only = false }

only : (d e : Durable) → d ≡ e → Contains (e ∷ []) d
only d e same = (0, omega arith, sym same)

second : (d e f : Durable) → d ≡ f → Contains (e ∷ f ∷ []) d
second d e f same = (1, omega arith, sym same)

first : (d e f : Durable) → d ≡ e → Contains (e ∷ f ∷ []) d
first d e f same = (0, omega arith, sym same)

-- as the value is known by the number of its steps
abbrev IsSound : ℕ → Type 0
IsSound steps = Unit {0}

starts : Starts turning IsSound covers_told 0
starts = record { place = refl; running = refl; base = λ s. refl; own = λ s moment d from t. only d (switched_durable 0) t }

switches : Updates turning IsSound covers_told 0 1
switches = record { not_fallen = record { host_faults = omega arith; view_faults = omega arith; clock = omega arith }; running = refl; goes_on = refl; room = omega arith; place = refl }

switches_soundly : UpdatesSoundly turning IsSound covers_told 0 1 (Switch at_default 1 0) (Switched 0)
switches_soundly = record {
  sound = tt;
  step = refl;
  base = refl;
  own = λ moment d from t. ⊎_elim (λ (u : (moment ≤ 1) × (d ≡ switched_durable 0)). absurd (omega (arith, u.0, from))) (λ u. only d (switched_durable 1) u) t;
  both = λ moment d from t. ⊎_elim (λ (u : (moment ≤ 1) × (d ≡ switched_durable 0)). first d (switched_durable 0) (switched_durable 1) u.1) (λ u. second d (switched_durable 0) (switched_durable 1) u) t;
  earlier = λ since list lt h moment d from t.
      ⊎_elim (λ (u : (moment ≤ 1) × (d ≡ switched_durable 0)). in_first list (switched_durable 1 ∷ []) d (h moment d from u.1)) (λ u. in_second list (switched_durable 1 ∷ []) d (only d (switched_durable 1) u)) t;
}

begins : Updates turning IsSound covers_told 1 2
begins = record { not_fallen = record { host_faults = omega arith; view_faults = omega arith; clock = omega arith }; running = refl; goes_on = refl; room = omega arith; place = refl }

begins_soundly : UpdatesSoundly turning IsSound covers_told 1 2 (Begin at_default) (Begun 2 0)
begins_soundly = record {
  sound = tt;
  step = refl;
  base = refl;
  own = λ moment d from t. ⊎_elim (λ (u : (moment ≤ 1) × (d ≡ switched_durable 0)). absurd (omega (arith, u.0, from))) (λ u. only d (switched_durable 1) u) t;
  both = λ moment d from t. ⊎_elim (λ (u : (moment ≤ 1) × (d ≡ switched_durable 0)). absurd (omega (arith, u.0, from))) (λ u. second d (switched_durable 1) (switched_durable 1) u) t;
  earlier = λ since list lt h moment d from t. in_first list (switched_durable 1 ∷ []) d (h moment d from t);
}

stops : Stops turning IsSound covers_told 2 3
stops = record { not_fallen = record { host_faults = omega arith; view_faults = omega arith; clock = omega arith }; place = refl; running = refl; stopped = refl }

stops_soundly : StopsSoundly turning IsSound covers_told 2 3 (Switch at_default 2 0)
stops_soundly = record {
  sound = tt;
  state = refl;
  both = λ moment d from t.
      ⊎_elim
      (λ (u : TellsSwitched moment d). ⊎_elim (λ (v : (moment ≤ 1) × (d ≡ switched_durable 0)). absurd (omega (arith, v.0, from))) (λ v. first d (switched_durable 1) (switched_durable 2) v) u)
      (λ u. second d (switched_durable 1) (switched_durable 2) u)
      t;
  earlier = λ since list lt h moment d from t.
      ⊎_elim (λ (u : TellsSwitched moment d). in_first list (switched_durable 2 ∷ []) d (h moment d from u)) (λ u. in_second list (switched_durable 2 ∷ []) d (only d (switched_durable 2) u)) t;
}

keeps : (steps : ℕ) → Keeps turning IsSound covers_told steps steps
keeps steps = record { not_fallen = record { host_faults = omega arith; view_faults = omega arith; clock = omega arith }; place = refl; stopped = refl }

keeps_soundly : (steps : ℕ) → KeepsSoundly turning IsSound covers_told steps steps
keeps_soundly steps = record { sound = tt; state = refl; base = refl; blocks = λ h v. refl; earlier = λ since list le h. h }

-- as a value that has made a number of steps
module _ {T : Type 0} (steps : T → ℕ) where
  pub starts_by : (value : T) → steps value ≡ 0 → Starts (λ t. turning (steps t)) (λ t. IsSound (steps t)) (λ t. covers_told (steps t)) value
  starts_by value e = let h = subst (λ n. Starts turning IsSound covers_told n) (sym e) starts in record { place = h.place; running = h.running; base = h.base; own = h.own }

  pub updates_by : (taken value : T) → Updates turning IsSound covers_told (steps taken) (steps value) → Updates (λ t. turning (steps t)) (λ t. IsSound (steps t)) (λ t. covers_told (steps t)) taken value
  updates_by taken value h = record { not_fallen = h.not_fallen; running = h.running; goes_on = h.goes_on; room = h.room; place = h.place }

  pub updates_soundly_by : (taken value : T) (call : Call) (reply : Reply) → UpdatesSoundly turning IsSound covers_told (steps taken) (steps value) call reply
      → UpdatesSoundly (λ t. turning (steps t)) (λ t. IsSound (steps t)) (λ t. covers_told (steps t)) taken value call reply
  updates_soundly_by taken value call reply h = record { sound = h.sound; step = h.step; base = h.base; own = h.own; both = h.both; earlier = h.earlier }

  pub switches_by : (taken value : T) → steps taken ≡ 0 → steps value ≡ 1 → Updates (λ t. turning (steps t)) (λ t. IsSound (steps t)) (λ t. covers_told (steps t)) taken value
  switches_by taken value e f = updates_by taken value (subst (λ n. Updates turning IsSound covers_told n (steps value)) (sym e) (subst (λ n. Updates turning IsSound covers_told 0 n) (sym f) switches))

  pub switches_soundly_by : (taken value : T) → steps taken ≡ 0 → steps value ≡ 1
      → UpdatesSoundly (λ t. turning (steps t)) (λ t. IsSound (steps t)) (λ t. covers_told (steps t)) taken value (Switch at_default 1 0) (Switched 0)
  switches_soundly_by taken value e f = updates_soundly_by taken value (Switch at_default 1 0) (Switched 0)
      (subst (λ n. UpdatesSoundly turning IsSound covers_told n (steps value) (Switch at_default 1 0) (Switched 0)) (sym e) (subst (λ n. UpdatesSoundly turning IsSound covers_told 0 n (Switch at_default 1 0) (Switched 0)) (sym f) switches_soundly))

  pub begins_by : (taken value : T) → steps taken ≡ 1 → steps value ≡ 2 → Updates (λ t. turning (steps t)) (λ t. IsSound (steps t)) (λ t. covers_told (steps t)) taken value
  begins_by taken value e f = updates_by taken value (subst (λ n. Updates turning IsSound covers_told n (steps value)) (sym e) (subst (λ n. Updates turning IsSound covers_told 1 n) (sym f) begins))

  pub begins_soundly_by : (taken value : T) → steps taken ≡ 1 → steps value ≡ 2
      → UpdatesSoundly (λ t. turning (steps t)) (λ t. IsSound (steps t)) (λ t. covers_told (steps t)) taken value (Begin at_default) (Begun 2 0)
  begins_soundly_by taken value e f = updates_soundly_by taken value (Begin at_default) (Begun 2 0)
      (subst (λ n. UpdatesSoundly turning IsSound covers_told n (steps value) (Begin at_default) (Begun 2 0)) (sym e) (subst (λ n. UpdatesSoundly turning IsSound covers_told 1 n (Begin at_default) (Begun 2 0)) (sym f) begins_soundly))

  pub keeps_by : (value : T) → Keeps (λ t. turning (steps t)) (λ t. IsSound (steps t)) (λ t. covers_told (steps t)) value value
  keeps_by value = let h = keeps (steps value) in record { not_fallen = h.not_fallen; place = h.place; stopped = h.stopped }

  pub keeps_soundly_by : (value : T) → KeepsSoundly (λ t. turning (steps t)) (λ t. IsSound (steps t)) (λ t. covers_told (steps t)) value value
  keeps_soundly_by value = let h = keeps_soundly (steps value) in record { sound = h.sound; state = h.state; base = h.base; blocks = h.blocks; earlier = h.earlier }

  pub stops_by : (taken value : T) → steps taken ≡ 2 → steps value ≡ 3 → Stops (λ t. turning (steps t)) (λ t. IsSound (steps t)) (λ t. covers_told (steps t)) taken value
  stops_by taken value e f = let h = subst (λ n. Stops turning IsSound covers_told n (steps value)) (sym e) (subst (λ n. Stops turning IsSound covers_told 2 n) (sym f) stops) in
      record { not_fallen = h.not_fallen; place = h.place; running = h.running; stopped = h.stopped }

  pub stops_soundly_by : (taken value : T) → steps taken ≡ 2 → steps value ≡ 3
      → StopsSoundly (λ t. turning (steps t)) (λ t. IsSound (steps t)) (λ t. covers_told (steps t)) taken value (Switch at_default 2 0)
  stops_soundly_by taken value e f = let h = subst (λ n. StopsSoundly turning IsSound covers_told n (steps value) (Switch at_default 2 0)) (sym e) (subst (λ n. StopsSoundly turning IsSound covers_told 2 n (Switch at_default 2 0)) (sym f) stops_soundly) in
      record { sound = h.sound; state = h.state; both = h.both; earlier = h.earlier }
