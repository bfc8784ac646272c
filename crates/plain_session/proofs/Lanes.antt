-- The lanes of a plain session, and the session that it shows after one of them has changed.
use Rattle.std.proofs.Common.{◌≡◌, ◌≢◌, ℕ, zero, suc, ◌<◌, Bool, true, false, List, [], ◌∷◌, ◌++◌, length, refl, sym, ap, subst, ◌∙◌, arith}
use Rattle.std.specs.Prelude.{Option, Some, ◌==◌, if◌then◌else◌, slice_get, slice_set, slice_index_or}
use Rattle.std.specs.List.{AllByRecursion}
use Rattle.std.specs.Option.{option_map, unwrap_or}
use Rattle.std.proofs.lemmas.Bool.{eqb-true, eqb-false}
use Rattle.std.specs.Vec.{vec_len, with_item}
use Rattle.forest_model.specs.Session as sessions
use Rattle.forest_model.specs.declared.line.Verb.{Verb}
use Rattle.forest_model.specs.declared.state.State.{State}
use Rattle.forest_oracle.specs.declared.oracle.Oracle.{Oracle}
use Rattle.plain_session.specs.Calls.{Asks}
use Rattle.plain_session.specs.Plain.{Shows, lane_shown, copier_shown}
use Rattle.plain_session.specs.declared.asked.Asked.{Asked}
use Rattle.plain_session.specs.declared.lane.Copier.{Copier}
use Rattle.plain_session.specs.declared.lane.Lane.{Lane}
use Rattle.plain_session.specs.declared.session.PlainSession.{PlainSession}

-- ---- lanes before their first line

abbrev pub IsFirst : Lane → Type 0
IsFirst lane = lane_shown lane ≡ sessions.first_lane

pub pushed : (lanes : List Lane) (lane : Lane) → IsFirst lane → AllByRecursion IsFirst lanes → AllByRecursion IsFirst (lanes ++ lane ∷ [])
pushed [] lane is all = (is, tt)
pushed (x ∷ lanes) lane is all = (all.0, pushed lanes lane is all.1)

pub each_first : (lanes : List Lane) (n : ℕ) → n < length lanes → AllByRecursion IsFirst lanes → option_map lane_shown (slice_get lanes n) ≡ Some sessions.first_lane
each_first [] n low all = absurd (omega arith)
each_first (x ∷ lanes) zero low all = ap (λ (l : sessions.Lane). Some l) all.0
each_first (x ∷ lanes) (suc n) low all = each_first lanes n (omega arith) all.1

-- ---- a lane

some_same : (a b : sessions.Lane) → Some a ≡ Some b → a ≡ b
some_same a b e = ap (λ (o : Option sessions.Lane). unwrap_or o a) e

-- the lane in a place shows what stands there
pub shown_at : (lanes : List Lane) (n : ℕ) (x : Lane) (shown : sessions.Lane) → x ≡ slice_index_or lanes n x → option_map lane_shown (slice_get lanes n) ≡ Some shown → lane_shown x ≡ shown
shown_at [] n x shown is there = cc
shown_at (y ∷ lanes) zero x shown is there = ap lane_shown is ∙ some_same (lane_shown y) shown there
shown_at (y ∷ lanes) (suc n) x shown is there = shown_at lanes n x shown is there

set_there : (xs : List Lane) (at : ℕ) (to : Lane) (shown : sessions.Lane) → option_map lane_shown (slice_get xs at) ≡ Some shown → slice_get (slice_set xs at to) at ≡ Some to
set_there [] at to shown is = cc
set_there (y ∷ xs) zero to shown is = refl
set_there (y ∷ xs) (suc at) to shown is = set_there xs at to shown is

set_other : (xs : List Lane) (at n : ℕ) (to : Lane) → n ≢ at → slice_get (slice_set xs at to) n ≡ slice_get xs n
set_other [] at n to apart = refl
set_other (y ∷ xs) zero zero to apart = absurd (apart refl)
set_other (y ∷ xs) zero (suc n) to apart = refl
set_other (y ∷ xs) (suc at) zero to apart = refl
set_other (y ∷ xs) (suc at) (suc n) to apart = set_other xs at n to (λ e. apart (ap suc e))

-- one lane has changed, the others are as they were
lanes_after : (lanes : List Lane) (before : ℕ → sessions.Lane) (at : ℕ) (to : Lane) (lane : sessions.Lane) → at < 16 → lane_shown to ≡ lane
    → ((n : ℕ) → n < 16 → option_map lane_shown (slice_get lanes n) ≡ Some (before n))
    → (n : ℕ) → n < 16 → option_map lane_shown (slice_get (slice_set lanes at to) n) ≡ Some (sessions.with_lane before at lane n)
lanes_after lanes before at to lane there is were n low = by (n == at) refl where
  by : (b : Bool) → (n == at) ≡ b → option_map lane_shown (slice_get (slice_set lanes at to) n) ≡ Some (if b then lane else before n)
  by true e =
      subst (λ (m : ℕ). option_map lane_shown (slice_get (slice_set lanes at to) m) ≡ Some lane) (sym (eqb-true n at e))
      (ap (option_map lane_shown) (set_there lanes at to (before at) (were at there)) ∙ ap (λ (l : sessions.Lane). Some l) is)
  by false e = ap (option_map lane_shown) (set_other lanes at n to (eqb-false n at e)) ∙ were n low

-- a plain session after a line of one lane
abbrev pub after : (p : PlainSession) (oracle : Oracle) (at : ℕ) (to : Lane) (held : Option Copier) → vec_len (with_item p.lanes at to) ≡ 16 → PlainSession
after p oracle at to held six = record { alloc = p.alloc; oracle = oracle; lanes = with_item p.lanes at to; copier = held; sixteen = six }

-- it shows the session with that lane
pub leads : (p : PlainSession) (oracle : Oracle) (at : ℕ) (to : Lane) (held : Option Copier) (six : vec_len (with_item p.lanes at to) ≡ 16)
    (w : sessions.Session) (state : State) (lane : sessions.Lane) (copier : Option sessions.Copier)
    → at < 16 → Shows p w → lane_shown to ≡ lane → state ≡ oracle.state → copier ≡ option_map copier_shown held
    → Shows (after p oracle at to held six) (record { state = state; lanes = sessions.with_lane w.lanes at lane; copier = copier })
leads p oracle at to held six w state lane copier low here is state_is copier_is = record {
  state = state_is;
  lanes = lanes_after p.lanes.items w.lanes at to lane low is here.lanes;
  copier = copier_is;
}

-- what a line asks of the lane that stands in its place it asks of the lane that is shown
pub asked_shown : (p : PlainSession) (w : sessions.Session) (at : ℕ) (x : Lane) (verb : Verb) (asked : Asked) → at < 16 → Shows p w → x ≡ slice_index_or p.lanes.items at x
    → Asks (lane_shown x) (option_map copier_shown p.copier) verb asked → Asks (w.lanes at) w.copier verb asked
asked_shown p w at x verb asked low here is asks =
    subst (λ (copier : Option sessions.Copier). Asks (w.lanes at) copier verb asked) (sym here.copier)
    (subst (λ (lane : sessions.Lane). Asks lane (option_map copier_shown p.copier) verb asked) (shown_at p.lanes.items at x (w.lanes at) is (here.lanes at low)) asks)
