-- What becomes of a refusal.
use Rattle.std.specs.Prelude.{Result, Ok, Err}
use Rattle.forest_model.specs.declared.line.Said.{Said}
use Rattle.forest_model.specs.declared.line.Said.TheVariants.{Refused}
use Rattle.forest_model.specs.declared.refusal.Refusal.{Refusal}
use Rattle.forest_model.specs.declared.refusal.Refusal.TheVariants as refusal
use Rattle.play_run.specs.declared.player.Ended.{Ended}
use Rattle.play_run.specs.declared.player.Ended.TheVariants.{NoMemory, HostFault, Damaged}

-- a refusal that has a text is said, and the others end the run
abbrev pub said_or_ended : Refusal → Result Said Ended
said_or_ended refusal.NoMemory = Err NoMemory
said_or_ended (refusal.Damaged file block) = Err (Damaged file block)
said_or_ended refusal.DiskFault = Err HostFault
said_or_ended (refusal.Stopped faults) = Err HostFault
said_or_ended refusal.Exists = Err HostFault
said_or_ended why = Ok (Refused why)
