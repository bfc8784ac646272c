use Rattle.play_run.specs.Playing.{IsSomewhere, disk_of, position}
use Rattle.std.proofs.Common.{◌≡◌, ◌+◌, ◌≤◌, ℕ, List, ◌++◌, take, IsTrue}
use Rattle.play_run.specs.Seen.{Seen, OthersStay, seen}
use Rattle.play_run.specs.Progress.{HasTaken}
use Rattle.play_run.proofs.player.Player.take_bytes.Given as goal

-- the bytes up to here were taken
abbrev pub invariant-loop-byte : goal.invariant-loop-byte
invariant-loop-byte g l = record {
  somewhere : IsSomewhere g.H.Host.tells (position l.self.session.file.parts l.self.session.lanes);
  few : l.self.count ≤ l.initial.self.count + l.byte-index;
  host : g.H.Host.faults l.self.session.file.parts.host ≡ g.H.Host.faults l.initial.self.session.file.parts.host;
  view : g.H.View.View.faults l.self.session.file.parts.view ≡ g.H.View.View.faults l.initial.self.session.file.parts.view;
  aside : IsTrue g.H.Host.tells → OthersStay (disk_of l.initial.self.session.file.parts) (disk_of l.self.session.file.parts);
  taken : (base : Seen) (taken : List ℕ)
      → HasTaken g.H.Host.tells base (seen (g.H.Host.disk l.initial.self.session.file.parts.host)) taken (position l.initial.self.session.file.parts l.initial.self.session.lanes) l.initial.self.open_line.items l.initial.self.count
      → HasTaken g.H.Host.tells base (seen (g.H.Host.disk l.self.session.file.parts.host)) (taken ++ take l.byte-index l.bytes) (position l.self.session.file.parts l.self.session.lanes) l.self.open_line.items l.self.count;
}
