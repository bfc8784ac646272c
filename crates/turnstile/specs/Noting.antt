-- How notes grow: a section is noted, notes are cut in two, and two are made one.
use Rattle.std.specs.Prelude.{◌+◌, ◌-◌, [], ◌∷◌, ◌++◌, None}
use Rattle.std.specs.List.{flat_map}
use Rattle.forest_model.specs.Notes.{ends_of}
use Rattle.forest_model.specs.State.{new_state, usual_limits}
use Rattle.forest_model.specs.History.{all_shares}
use Rattle.forest_model.specs.declared.held.Point.{Point}
use Rattle.forest_model.specs.declared.held.Deed.{Deed}
use Rattle.forest_model.specs.declared.held.Section.{Section}
use Rattle.forest_model.specs.declared.held.Notes.{Notes}

-- of the first pass
abbrev pub first_notes : Point → Notes
first_notes start = record { shares = all_shares; start = start; told = []; sections = [] }

abbrev pub section : Point → Point → Deed → Section
section entered left deed = record { entered = entered; left = left; deed = deed }

abbrev pub noted : Notes → Section → Notes
noted n s = record n { sections = n.sections ++ s ∷ [] }

-- one share goes to another pass
abbrev pub without_share : Notes → Notes
without_share n = record n { shares = n.shares - 1 }

-- the other pass knows all that this one knows, and has made and tried nothing
abbrev pub told_all : Notes → Notes
told_all n = record { shares = 1; start = n.start; told = n.told ++ flat_map ends_of n.sections; sections = [] }

abbrev pub joined : Notes → Notes → Notes
joined n m = record { shares = n.shares + m.shares; start = n.start; told = n.told ++ m.told; sections = n.sections ++ m.sections }

-- of a pass that was joined to another; its start says nothing
abbrev pub spent_notes : Notes
spent_notes = record {
  shares = 0;
  start = record { state = new_state usual_limits; blocks = []; base = 0; host_faults = 0; view_faults = 0; stopped = None; clock = 0 };
  told = [];
  sections = [];
}
