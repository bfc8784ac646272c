use Rattle.std.proofs.Common.{◌<◌, IfSome}
use Rattle.host_files.proofs.dir_folder.DirFolderFolder.next.Given as goal

abbrev pub invariant-loop : goal.invariant-loop
invariant-loop g l = IfSome l.least (λ file. l.after < file)
