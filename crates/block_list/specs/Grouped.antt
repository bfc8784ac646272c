-- Blocks in groups of 256.
use Rattle.std.specs.Prelude.{◌≡◌, ◌≤◌, ◌^◌, List, [], ◌∷◌, ◌++◌, length, map, Option, None, Some, Vec}
use Rattle.std.specs.Arc.{arc_value}
use Rattle.std.specs.declared.alloc.Global.{Global}
use Rattle.std.specs.declared.sync.Arc.{Arc}
use Rattle.block_host.specs.declared.block.Block.{Block}

-- the groups of a list that may be shared; none where there is no list
abbrev pub listed : Option (Arc (Vec (Arc (List Block) Global) Global) Global) → List (List Block)
listed None = []
listed (Some groups) = map arc_value (arc_value groups).items

-- the blocks of all groups, in order
abbrev pub joined : List (List Block) → List Block
joined [] = []
joined (group ∷ groups) = group ++ joined groups

-- each group has 256 blocks
abbrev pub AllWhole : List (List Block) → Type 0
AllWhole [] = Unit {0}
AllWhole (group ∷ groups) = (length group ≡ 256) × AllWhole groups

-- whole groups, and behind them what fills no other
pub record IsGrouped (groups : List (List Block)) (rest : List Block) : Type 0 where
  pub whole : AllWhole groups
  pub few : length groups ≤ 2 ^ 40
  pub fits : length rest ≤ 256
