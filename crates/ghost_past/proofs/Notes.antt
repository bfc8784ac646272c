-- What the functions of a history leave in it: the one thing that they do, since their bodies only make an empty struct.
use Rattle.std.proofs.Common.{List, ◌∷◌}

-- the newest in front of what was noted before
abbrev pub noted : {X : Type 0} → X → List X → List X
noted newest items = newest ∷ items

-- two values as one
abbrev pub noted_pair : {X Y : Type 0} → X → Y → List (X × Y) → List (X × Y)
noted_pair first second items = (first, second) ∷ items
