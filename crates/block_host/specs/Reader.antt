-- What a source over a reader still has to give.
use Rattle.std.specs.Prelude.{ℕ, List, Option}
use Rattle.block_host.specs.declared.source.StdSource.{StdSource}

-- the bytes that its reader has left, where they are known
abbrev pub left_to_read : {R : Type 0} → (R → Option (List ℕ)) → StdSource R → Option (List ℕ)
left_to_read remaining source = remaining source.reader
