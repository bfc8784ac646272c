-- The bytes of a new store: the meta file's first slot, and the header of commit 0.
use Rattle.std.specs.Prelude.{ℕ, List, [], ◌∷◌, ◌++◌, codes}
use Rattle.std.specs.Int.{w64, to_be_bytes}

abbrev pub long : ℕ → List ℕ
long n = to_be_bytes w64 n

-- generation 1, revision 1
abbrev pub first_slot : List ℕ
first_slot = long 1 ++ long 1

-- the store `default`: id 0, its name and that name's length, sequence number 0, no documents
abbrev pub default_row : List ℕ
default_row = long 0 ++ (7 ∷ []) ++ codes "default" ++ (0 ∷ 0 ∷ 0 ∷ 0 ∷ 0 ∷ 0 ∷ 0 ∷ 0 ∷ 0 ∷ 0 ∷ 0 ∷ 0 ∷ 0 ∷ 0 ∷ 0 ∷ 0 ∷ 0 ∷ 0 ∷ 0 ∷ 0 ∷ 0 ∷ 0 ∷ 0 ∷ 0 ∷ []) ++ long 0 ++ long 0

-- commit 0 and next commit 1; no previous header and no roots; records from block 1 on and none live; next store id 1; one store
abbrev pub first_header : List ℕ
first_header = long 0 ++ long 1 ++ long 0 ++ long 0 ++ long 0 ++ long 1 ++ long 0 ++ long 1 ++ long 1 ++ default_row
