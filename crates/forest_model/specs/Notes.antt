-- What the notes of a pass say: the points that it knows, the state at each place, what it has made and what it has tried.
use Rattle.std.specs.Prelude.{ℕ, Bool, true, false, ◌&&◌, ◌==◌, List, [], ◌∷◌, ◌++◌, filter, find, count_by, Option, option_map}
use Rattle.std.specs.List.{flat_map}
use Rattle.forest_model.specs.State.{Durable, durable_of}
use Rattle.forest_model.specs.declared.held.Point.{Point}
use Rattle.forest_model.specs.declared.held.Deed.{Deed}
use Rattle.forest_model.specs.declared.held.Deed.TheVariants.{Changed, Same, Stopped}
use Rattle.forest_model.specs.declared.held.Section.{Section}
use Rattle.forest_model.specs.declared.held.Notes.{Notes}
use Rattle.forest_model.specs.declared.state.State.{State}

-- the number of updates so far
abbrev pub place_of : Point → ℕ
place_of p = p.state.place

abbrev pub own_durable : Point → Durable
own_durable p = durable_of p.state

abbrev pub is_changed : Deed → Bool
is_changed (Changed call reply) = true
is_changed Same = false
is_changed (Stopped call) = false

abbrev pub is_stopped : Deed → Bool
is_stopped (Changed call reply) = false
is_stopped Same = false
is_stopped (Stopped call) = true

-- the sections that were updates
abbrev pub made : Notes → List Section
made n = filter (λ s. is_changed s.deed) n.sections

-- the sections that stopped the value
abbrev pub tried : Notes → List Section
tried n = filter (λ s. is_stopped s.deed) n.sections

-- how often the update that made this place stands in the notes
abbrev pub times_made : ℕ → Notes → ℕ
times_made place n = count_by (λ s. is_changed s.deed && (place_of s.left == place)) n.sections

abbrev pub ends_of : Section → List Point
ends_of s = s.entered ∷ s.left ∷ []

-- every point that the notes have
abbrev pub points_of : Notes → List Point
points_of n = n.start ∷ n.told ++ flat_map ends_of n.sections

-- the state at a place, as far as the notes know it
abbrev pub known : Notes → ℕ → Option State
known n place = option_map (λ p. p.state) (find (λ p. place_of p == place) (points_of n))
