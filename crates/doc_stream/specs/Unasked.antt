-- Where a reader asks nothing of the view.
use Rattle.std.specs.Prelude.{◌≡◌, ℕ, ◌+◌, ◌<◌, length, Option, Some, None}
use Rattle.doc_stream.specs.OpenBlock.{OpenBlock}
use Rattle.doc_stream.specs.Steps.{Place}

-- a block is the open one
abbrev pub IsOpenAt : Option OpenBlock → ℕ → Type 0
IsOpenAt None at = ⊥
IsOpenAt (Some tail) at = at ≡ tail.number

-- the block in hand isn't full, so that nothing is read behind it
abbrev pub IsShort : Place → Type 0
IsShort place = place.offset + length place.bytes < 4064
