-- One history of a value that threads take in turns, and that all passes agree on it.
-- The history is the list of its updates in the order of their places, so the update at index i made the place i + 1.
use Rattle.std.specs.Prelude.{◌≡◌, ℕ, suc, ◌+◌, ◌-◌, ◌^◌, ◌<◌, ◌≤◌, IsTrue, ◌&&◌, nat_le, List, [], ◌∷◌, ◌++◌, map, drop, length, sum_by, slice_get, Option, Some, None, is_some, IfSome, option_map, option_to_list, if◌then◌else◌}
use Rattle.std.specs.List.{AllByRecursion}
use mathlib.Core.Option.{some}
use lib.ListN.{get_elem?}
use Rattle.forest_model.specs.Blocks.{File}
use Rattle.forest_model.specs.Step.{step_of}
use Rattle.forest_model.specs.State.{Durable, durable_of}
use Rattle.forest_model.specs.Notes.{place_of, own_durable, is_changed, tried, times_made, points_of, known}
use Rattle.forest_model.specs.declared.held.Point.{Point}
use Rattle.forest_model.specs.declared.held.Deed.{Deed}
use Rattle.forest_model.specs.declared.held.Deed.TheVariants.{Changed, Same, Stopped}
use Rattle.forest_model.specs.declared.held.Section.{Section}
use Rattle.forest_model.specs.declared.held.Notes.{Notes}
use Rattle.forest_model.specs.declared.call.Call.{Call}
use Rattle.forest_model.specs.declared.call.Call.TheVariants as calls
use Rattle.forest_model.specs.declared.call.Reply.{Reply}
use Rattle.forest_model.specs.declared.state.State.{State}

-- the shares of all passes together
abbrev pub all_shares : ℕ
all_shares = 65536

-- the counts and the clock haven't fallen
pub record HaveNotFallen (before after : Point) : Type 0 where
  pub host_faults : before.host_faults ≤ after.host_faults
  pub view_faults : before.view_faults ≤ after.view_faults
  pub clock : before.clock ≤ after.clock

-- it hasn't stopped, and neither count has risen since
pub record IsUntroubled (since now : Point) : Type 0 where
  pub running : now.stopped ≡ None
  pub host_faults : now.host_faults ≡ since.host_faults
  pub view_faults : now.view_faults ≡ since.view_faults

-- one update of the sequential store, from this state over these blocks
abbrev pub Answers : State → File → Deed → State → Type 0
Answers s file (Changed call reply) after = step_of s file call ≡ (reply, after)
Answers s file Same after = ⊥
Answers s file (Stopped call) after = ⊥

-- these updates lead from one state to the other
abbrev pub Run : State → List Section → State → Type 0
Run s [] last = s ≡ last
Run s (x ∷ xs) last = (x.entered.state ≡ s) × Answers s x.entered.blocks x.deed x.left.state × Run x.left.state xs last

-- the updates make the places after this one, in order
abbrev pub Numbered : ℕ → List Section → Type 0
Numbered place [] = Unit {0}
Numbered place (x ∷ xs) = (place_of x.entered ≡ place) × (place_of x.left ≡ suc place) × IsTrue (is_changed x.deed) × Numbered (suc place) xs

-- the value at each place, as it was when that place was made
abbrev pub history : Point → List Section → List Point
history start updates = start ∷ map (λ s. s.left) updates

-- the durables of a history from a place to its end
abbrev pub durables_from : ℕ → List Point → List Durable
durables_from place points = map own_durable (drop place points)

-- what of the state is durable that the tried call would have left
abbrev pub tried_by : Section → Deed → List Durable
tried_by s (Stopped call) = durable_of (step_of s.entered.state s.entered.blocks call).1 ∷ []
tried_by s _ = []

abbrev pub tried_durables : Option Section → List Durable
tried_durables None = []
tried_durables (Some s) = tried_by s s.deed

-- the number of blocks after a deed: a switch begins a new file
abbrev pub base_of_call : Call → ℕ → ℕ → ℕ
base_of_call (calls.Switch at ticket left) base blocks = blocks
base_of_call _ base blocks = base

abbrev pub base_of_deed : Deed → ℕ → ℕ → ℕ
base_of_deed (Changed call reply) base blocks = base_of_call call base blocks
base_of_deed _ base blocks = base

-- the number of blocks noted with the last switch, or the number before
abbrev pub base_after : ℕ → List Section → ℕ
base_after base [] = base
base_after base (x ∷ xs) = base_after (base_of_deed x.deed base (length x.left.blocks)) xs

-- the history has this point's state at its place and, while nothing failed, its blocks
pub record StandsIn (points : List Point) (start p : Point) : Type 0 where
  pub when_made : Point
  pub there : slice_get points (place_of p) ≡ Some when_made
  pub state : p.state ≡ when_made.state
  pub blocks : IsUntroubled start p → p.blocks ≡ when_made.blocks

-- what an update is in the history, and what a call that stopped the value is
abbrev pub DeedIn : List Section → Option Section → Section → Deed → Type 0
DeedIn updates stop s (Changed call reply) = slice_get updates (place_of s.entered) ≡ Some s
DeedIn updates stop s Same = place_of s.left ≡ place_of s.entered
DeedIn updates stop s (Stopped call) = (stop ≡ Some s) × (place_of s.left ≡ place_of s.entered)

-- A section that a pass has noted, in the history.
pub record IsSection (updates : List Section) (stop : Option Section) (s : Section) : Type 0 where
  pub not_fallen : HaveNotFallen s.entered s.left
  pub deed : DeedIn updates stop s s.deed

-- a pass that was joined to another has nothing left
abbrev pub IsSpent : Notes → Type 0
IsSpent n = (n.told ≡ []) × (n.sections ≡ [])

module _ {T : Type 0} (shows : T → Point) (is_sound : T → Type 0) (covers : T → ℕ → List Durable → Type 0) where
  -- A point that somebody noted: `first` is the value at place 0, and `now` as it stands.
  pub record IsNoted (first now : T) (updates : List Section) (stop : Option Section) (p : Point) : Type 0 where
    pub place : place_of p ≤ length updates
    pub since_start : HaveNotFallen (shows first) p
    pub until_now : HaveNotFallen p (shows now)
    -- a kept count is the value's from then on
    pub stopped : IfSome p.stopped (λ count. (shows now).stopped ≡ Some count)
    pub stands : is_sound first → StandsIn (history (shows first) updates) (shows first) p
    -- images since its clock stand for the durables from its place on, or for what the tried call would have left
    pub covered : is_sound first → covers now p.clock (durables_from (place_of p) (history (shows first) updates) ++ tried_durables stop)

  -- The value as it stands at the history's end.
  pub record IsLast (first now : T) (updates : List Section) (stop : Option Section) : Type 0 where
    pub place : place_of (shows now) ≡ length updates
    pub noted : IsNoted first now updates stop (shows now)
    -- it has a kept count exactly where a call stopped it
    pub running : is_some (shows now).stopped ≡ is_some stop
    pub base : is_sound first → (shows now).stopped ≡ None → (shows now).base ≡ base_after 0 updates
    pub sound : is_sound first → is_sound now

  -- What the notes of one pass say agrees with the history.
  pub record AgreesWith (first now : T) (updates : List Section) (stop : Option Section) (n : Notes) : Type 0 where
    pub start : n.start ≡ shows first
    pub points : AllByRecursion (IsNoted first now updates stop) (points_of n)
    pub sections : AllByRecursion (IsSection updates stop) n.sections

  -- The history itself: its updates are in order, and each is a step of the sequential store.
  pub record IsHistory (first now : T) (updates : List Section) (stop : Option Section) : Type 0 where
    pub start : place_of (shows first) ≡ 0
    pub numbered : Numbered 0 updates
    pub run : is_sound first → Run (shows first).state updates (shows now).state
    pub last : IsLast first now updates stop

  -- All passes agree on the history: each by itself, and all together they have its shares and made its places.
  pub record Agree {V : Type 0} (notes : V → Notes) (first now : T) (updates : List Section) (stop : Option Section) (passes : List V) : Type 0 where
    pub history : IsHistory first now updates stop
    pub each : (seat : ℕ) (v : V) → get_elem? passes seat ≡ some v → 0 < (notes v).shares → AgreesWith first now updates stop (notes v)
    pub spent : (seat : ℕ) (v : V) → get_elem? passes seat ≡ some v → (notes v).shares ≡ 0 → IsSpent (notes v)
    pub shares : sum_by (λ v. (notes v).shares) passes ≡ all_shares
    -- places 1 to the count were made, each once
    pub made_once : (place : ℕ) → sum_by (λ v. times_made place (notes v)) passes ≡ (if nat_le 1 place && nat_le place (length updates) then 1 else 0)
    pub tried_once : sum_by (λ v. length (tried (notes v))) passes ≡ length (option_to_list stop)

  -- What a pass that has entered knows of the value that it took.
  pub record Enters (first taken : T) (n : Notes) : Type 0 where
    pub updates : List Section
    pub stop : Option Section
    pub history : IsHistory first taken updates stop
    pub agrees : AgreesWith first taken updates stop n
    -- from each state that the pass knows, updates in order lead to that of the value taken
    pub leads : is_sound first → (place : ℕ) (s : State) → known n place ≡ Some s → (place ≤ length updates) × Run s (drop place updates) (shows taken).state

  -- What the last pass knows of the value that it closes.
  pub record Closes (first last : T) (n : Notes) : Type 0 where
    pub updates : List Section
    pub stop : Option Section
    pub agree : Agree {V = Notes} (λ m. m) first last updates stop (n ∷ [])
    -- it knows the state at each place
    pub knows : is_sound first → (place : ℕ) → place ≤ length updates → known n place ≡ option_map (λ p. p.state) (slice_get (history (shows first) updates) place)

  -- The conditions of the three ways to leave, on the value taken and the value that is put back.

  -- of every value: an update makes the next place, and neither value has stopped
  pub record Updates (taken value : T) : Type 0 where
    pub not_fallen : HaveNotFallen (shows taken) (shows value)
    pub running : (shows taken).stopped ≡ None
    pub goes_on : (shows value).stopped ≡ None
    pub room : place_of (shows taken) < 2 ^ 62 - 1
    pub place : place_of (shows value) ≡ place_of (shows taken) + 1

  -- of a value that is sound
  pub record UpdatesSoundly (taken value : T) (call : Call) (reply : Reply) : Type 0 where
    pub sound : is_sound value
    pub step : step_of (shows taken).state (shows taken).blocks call ≡ (reply, (shows value).state)
    pub base : (shows value).base ≡ base_of_call call (shows taken).base (length (shows value).blocks)
    pub own : covers value (shows value).clock (own_durable (shows value) ∷ [])
    pub both : covers value (shows taken).clock (own_durable (shows taken) ∷ own_durable (shows value) ∷ [])
    pub earlier : (since : ℕ) (list : List Durable) → since < (shows taken).clock → covers taken since list → covers value since (list ++ own_durable (shows value) ∷ [])

  pub record Keeps (taken value : T) : Type 0 where
    pub not_fallen : HaveNotFallen (shows taken) (shows value)
    pub place : place_of (shows value) ≡ place_of (shows taken)
    pub stopped : (shows value).stopped ≡ (shows taken).stopped

  pub record KeepsSoundly (taken value : T) : Type 0 where
    pub sound : is_sound value
    pub state : (shows value).state ≡ (shows taken).state
    pub base : (shows value).base ≡ (shows taken).base
    pub blocks : (shows value).host_faults ≡ (shows taken).host_faults → (shows value).view_faults ≡ (shows taken).view_faults → (shows value).blocks ≡ (shows taken).blocks
    pub earlier : (since : ℕ) (list : List Durable) → since ≤ (shows taken).clock → covers taken since list → covers value since list

  pub record Stops (taken value : T) : Type 0 where
    pub not_fallen : HaveNotFallen (shows taken) (shows value)
    pub place : place_of (shows value) ≡ place_of (shows taken)
    pub running : (shows taken).stopped ≡ None
    pub stopped : IsTrue (is_some (shows value).stopped)

  pub record StopsSoundly (taken value : T) (call : Call) : Type 0 where
    pub sound : is_sound value
    pub state : (shows value).state ≡ (shows taken).state
    pub both : covers value (shows taken).clock (own_durable (shows taken) ∷ durable_of (step_of (shows taken).state (shows taken).blocks call).1 ∷ [])
    pub earlier : (since : ℕ) (list : List Durable) → since < (shows taken).clock → covers taken since list
        → covers value since (list ++ durable_of (step_of (shows taken).state (shows taken).blocks call).1 ∷ [])

  -- The condition on a first value: it stands at place 0 and runs, and a sound one covers its own durable alone.
  pub record Starts (first : T) : Type 0 where
    pub place : place_of (shows first) ≡ 0
    pub running : (shows first).stopped ≡ None
    pub base : is_sound first → (shows first).base ≡ 0
    pub own : is_sound first → covers first (shows first).clock (own_durable (shows first) ∷ [])
