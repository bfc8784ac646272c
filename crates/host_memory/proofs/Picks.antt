-- A file after a crash, and none.
use Rattle.std.proofs.Common.{◌≡◌, [], refl}
use Rattle.std.specs.Prelude.{Option, Some, None, option_map, unwrap_or}
use Rattle.host_memory.specs.Pending.{FileState, no_file, picked}
use Rattle.host_memory.specs.declared.pick.Pick.{Pick}
use Rattle.host_memory.specs.declared.pick.Pick.TheVariants.{Before, Written, Torn}

abbrev pub after_crash : Pick → FileState → FileState
after_crash pick file = record { blocks = picked pick file; steps = [] }

none_after : (pick : Pick) → no_file ≡ after_crash pick no_file
none_after Before = refl
none_after Written = refl
none_after Torn = refl

pub crash-found : (pick : Pick) (found : Option FileState) → unwrap_or (option_map (after_crash pick) found) no_file ≡ after_crash pick (unwrap_or found no_file)
crash-found pick None = none_after pick
crash-found pick (Some file) = refl
