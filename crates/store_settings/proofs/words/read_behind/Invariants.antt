use Rattle.std.proofs.Common.{◌≡◌, List, ◌++◌, map, take, string_bytes}
use Rattle.std.specs.Prelude.{option_map}
use Rattle.store_settings.specs.Profile.{Text}
use Rattle.store_settings.specs.Reading.{read, start}
use Rattle.store_settings.proofs.Exact.{at}
use Rattle.store_settings.proofs.words.read_behind.Given as goal

abbrev pub invariant-loop-index : goal.invariant-loop-index
invariant-loop-index l = (more : List Text) → read (start l.fn.command) (take l.index (map string_bytes l.fn.words) ++ more)
    ≡ read (at l.reader.0 l.reader.1.0 l.reader.1.1.0 (option_map (λ d. d.now) l.reader.1.1.1.0) l.reader.1.1.1.1.0) more
