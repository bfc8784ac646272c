use Rattle.play_run.specs.Playing.{IsSomewhere, disk_of, position}
use Rattle.std.proofs.Common.{◌≡◌, ◌+◌, ◌<◌, ◌≤◌, ℕ, List, [], ◌++◌, length, IsTrue}
use Rattle.play_run.specs.Seen.{Seen, OthersStay, seen}
use Rattle.play_run.specs.Progress.{HasTaken}
use Rattle.play_run.specs.declared.player.TheConstants.{SCRIPT_LIMIT}
use Rattle.play_run.proofs.player.Player.run.Given as goal

-- so many bytes may still be taken, and those before them were
abbrev pub invariant-script : goal.invariant-script
invariant-script g l = record {
  somewhere : IsSomewhere g.H.Host.tells (position l.self.session.file.parts l.self.session.lanes);
  small : l.self.count + l.left ≤ SCRIPT_LIMIT + 1;
  some : 0 < l.left;
  within : l.left ≤ SCRIPT_LIMIT + 1;
  host : g.H.Host.faults l.self.session.file.parts.host ≡ g.H.Host.faults l.initial.self.session.file.parts.host;
  view : g.H.View.View.faults l.self.session.file.parts.view ≡ g.H.View.View.faults l.initial.self.session.file.parts.view;
  counts : g.S.Source.faults l.initial.source ≤ g.S.Source.faults l.source;
  aside : IsTrue g.H.Host.tells → OthersStay (disk_of l.initial.self.session.file.parts) (disk_of l.self.session.file.parts);
  taken : IsTrue g.S.Source.tells → (base : Seen)
      → HasTaken g.H.Host.tells base (seen (g.H.Host.disk l.initial.self.session.file.parts.host)) [] (position l.initial.self.session.file.parts l.initial.self.session.lanes) l.initial.self.open_line.items l.initial.self.count
      → (taken : List ℕ) × (g.S.Source.rest l.initial.source ≡ taken ++ g.S.Source.rest l.source) × (length taken + l.left ≡ SCRIPT_LIMIT + 1)
      × HasTaken g.H.Host.tells base (seen (g.H.Host.disk l.self.session.file.parts.host)) taken (position l.self.session.file.parts l.self.session.lanes) l.self.open_line.items l.self.count;
}

abbrev pub decreases-script : goal.decreases-script
decreases-script g l = l.left
