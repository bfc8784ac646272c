use Rattle.std.proofs.Common.{◌<◌, ◌≤◌, IfSome}
use Rattle.host_files.proofs.dir_folder.DirFolder.least_of.Given as goal

abbrev pub invariant-loop-at : goal.invariant-loop-at
invariant-loop-at g l = (l.begin ≤ l.at) × IfSome l.least (λ file. l.after < file)
