-- The rule of the table, which holds between any two steps, and what each kind of step tells.
-- The one word is twice the number of updates, and one more while a pass is inside. The one slot has the value, and is out with the pass that is inside.
use Rattle.std.specs.Prelude.{◌≡◌, ◌≢◌, ℕ, ◌+◌, ◌*◌, ◌<◌, ◌≤◌, Bool, true, false, cond, List, [], ◌∷◌, length, sum_by, Option, Some, None, is_some, IfSome, MatchOption}
use mathlib.Core.Option.{some, none}
use mathlib.Core.Option as maybe
use lib.ListN.{get_elem?}
use Rattle.atomic_table.specs.Table.{State, Me, Step}
use Rattle.forest_model.specs.State.{Durable}
use Rattle.forest_model.specs.Notes.{place_of}
use Rattle.forest_model.specs.History.{Agree, Enters, all_shares}
use Rattle.forest_model.specs.declared.held.Point.{Point}
use Rattle.forest_model.specs.declared.held.Deed.{Deed}
use Rattle.forest_model.specs.declared.held.Section.{Section}
use Rattle.forest_model.specs.declared.held.Notes.{Notes}
use Rattle.turnstile.specs.Noting.{first_notes, section, noted, without_share, told_all, joined, spent_notes}
use Rattle.turnstile.specs.declared.berth.Berth.{Berth}
use Rattle.turnstile.specs.declared.berth.Knows.{Knows}

abbrev pub busy_number : Bool → ℕ
busy_number busy = cond busy 1 0

abbrev pub notes_in : {T : Type 0} → Knows T → Notes
notes_in v = v.notes

-- where the value is: at home, or out with a pass
abbrev pub IsPlaced : {T : Type 0} → Bool → T → List (maybe.Option (Berth T)) → Type 0
IsPlaced {T} false now homes = (berth : Berth T) × (berth.value ≡ Some now) × (homes ≡ some berth ∷ [])
IsPlaced true now homes = homes ≡ none ∷ []

abbrev pub Mine : Type 0 → Type 0
Mine T = Me (Berth T) (Knows T)

abbrev pub At : Type 0 → Type 0
At T = Step (Berth T)

module _ {T : Type 0} (shows : T → Point) (is_sound : T → Type 0) (covers : T → ℕ → List Durable → Type 0) where
  -- what a pass has and has taken; one that was joined to another has nothing
  abbrev pub IsSeated : T → T → Knows T → Type 0
  IsSeated first now v = MatchOption v.first (v.taken ≡ None) (λ f. (f ≡ first) × (0 < v.notes.shares)) × IfSome v.taken (λ x. x ≡ now)

  pub record Kept (first : T) (s : State (Berth T) (Knows T)) : Type 0 where
    pub now : T
    pub updates : List Section
    pub stop : Option Section
    pub busy : Bool
    pub word : s.words ≡ (2 * length updates + busy_number busy) ∷ []
    pub placed : IsPlaced busy now s.homes
    -- while a pass is inside, nobody else is
    pub inside : sum_by (λ v. cond (is_some v.taken) 1 0) s.views ≡ busy_number busy
    pub views : (seat : ℕ) (v : Knows T) → get_elem? s.views seat ≡ some v → IsSeated first now v
    pub agree : Agree shows is_sound covers notes_in first now updates stop s.views

  abbrev pub first_knows : T → Knows T
  first_knows first = record { first = Some first; taken = None; notes = first_notes (shows first) }

  -- a load, or a compare and exchange that fails: nothing changes, and no pass has more shares than there are
  abbrev pub Looks : At T → Mine T → ℕ → Mine T → Type 0
  Looks s me found after = (after ≡ me) × (me.0.notes.shares ≤ all_shares)

  -- the value was taken, and the history tells what it is
  pub record Entered (me after : Mine T) : Type 0 where
    pub taken : T
    pub berth : Berth T
    pub value : berth.value ≡ Some taken
    pub carried : after.1 ≡ (0, berth) ∷ me.1
    pub view : after.0 ≡ record (me.0) { taken = Some taken }
    pub told : (first : T) → me.0.first ≡ Some first → Enters shows is_sound covers first taken me.0.notes

  abbrev pub EntersOrLooks : At T → Mine T → ℕ → Mine T → Type 0
  EntersOrLooks s me found after = (found ≡ s.first → Entered me after) × (found ≢ s.first → after ≡ me)

  abbrev pub left_with : Knows T → Section → Knows T
  left_with v s = record v { taken = None; notes = noted v.notes s }

  -- the value is put back, and the section is noted
  abbrev pub Leaves : At T → Mine T → ℕ → Mine T → Type 0
  Leaves s me found after =
      (berth : Berth T) (taken value : T) (deed : Deed) → me.0.taken ≡ Some taken → me.1 ≡ (0, berth) ∷ [] → berth.value ≡ Some value → berth.deed.items ≡ deed ∷ []
      → (found ≡ 2 * place_of (shows taken) + 1) × (after.1 ≡ []) × (after.0 ≡ left_with me.0 (section (shows taken) (shows value) deed))

module _ {T : Type 0} where
  abbrev pub gives_share : Knows T → Knows T
  gives_share v = record v { notes = without_share v.notes }

  abbrev pub has_share : Knows T → Knows T
  has_share v = record v { taken = None; notes = told_all v.notes }

  abbrev pub takes_in : Knows T → Knows T → Knows T
  takes_in v w = record v { notes = joined v.notes w.notes }

  abbrev pub nothing_left : Knows T
  nothing_left = record { first = None; taken = None; notes = spent_notes }
