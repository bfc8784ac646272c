-- Blocks in groups of 256, by place.
use Rattle.std.proofs.Common.{◌≡◌, ◌+◌, ◌-◌, ◌*◌, ◌/◌, ◌%◌, ◌<◌, ◌≤◌, ℕ, zero, suc, List, [], ◌∷◌, ◌++◌, length, take, sym, ◌∙◌, ap, subst, arith}
use Rattle.std.specs.Prelude.{Some, None, slice_get, slice_set}
use Rattle.std.proofs.lemmas.List.{append-nil, append_assoc, length-append, take-append-le, get_or_append_left, set-append_left}
use Rattle.std.proofs.lemmas.Option.{slice_get-get_or}
use Rattle.block_host.specs.declared.block.Block.{Block}
use Rattle.block_host.specs.Sealed.{zero_block}
use Rattle.block_list.specs.Grouped.{joined, AllWhole}

slice_get-behind : (xs ys : List Block) (i : ℕ) → slice_get (xs ++ ys) (length xs + i) ≡ slice_get ys i
slice_get-behind [] ys i = ap (slice_get ys) (omega arith)
slice_get-behind (x ∷ xs) ys i =
    let place : suc (length xs + i) ≡ suc (length xs) + i = omega arith in
    subst (λ (k : ℕ). slice_get (x ∷ (xs ++ ys)) k ≡ slice_get ys i) place (slice_get-behind xs ys i)

take-behind : (xs ys : List Block) (i : ℕ) → take (length xs + i) (xs ++ ys) ≡ xs ++ take i ys
take-behind [] ys i = ap (λ (k : ℕ). take k ys) (omega arith)
take-behind (x ∷ xs) ys i =
    let place : suc (length xs + i) ≡ suc (length xs) + i = omega arith in
    subst (λ (k : ℕ). take k (x ∷ (xs ++ ys)) ≡ x ∷ (xs ++ take i ys)) place (ap (λ (zs : List Block). x ∷ zs) (take-behind xs ys i))

set-behind : (xs ys : List Block) (i : ℕ) (y : Block) → slice_set (xs ++ ys) (length xs + i) y ≡ xs ++ slice_set ys i y
set-behind [] ys i y = ap (λ (k : ℕ). slice_set ys k y) (omega arith)
set-behind (x ∷ xs) ys i y =
    let place : suc (length xs + i) ≡ suc (length xs) + i = omega arith in
    subst (λ (k : ℕ). slice_set (x ∷ (xs ++ ys)) k y ≡ x ∷ (xs ++ slice_set ys i y)) place (ap (λ (zs : List Block). x ∷ zs) (set-behind xs ys i y))

pub length-joined : (groups : List (List Block)) → AllWhole groups → length (joined groups) ≡ length groups * 256
length-joined [] whole = omega arith
length-joined (group ∷ groups) whole = omega (arith, length-append group (joined groups), whole.0, length-joined groups whole.1)

pub joined-push : (groups : List (List Block)) (group : List Block) → joined (groups ++ group ∷ []) ≡ joined groups ++ group
joined-push [] group = append-nil group
joined-push (first ∷ groups) group = ap (λ (rest : List Block). first ++ rest) (joined-push groups group) ∙ sym (append_assoc first (joined groups) group)

pub AllWhole-push : (groups : List (List Block)) (group : List Block) → AllWhole groups → length group ≡ 256 → AllWhole (groups ++ group ∷ [])
AllWhole-push [] group whole is = (is, tt)
AllWhole-push (first ∷ groups) group whole is = (whole.0, AllWhole-push groups group whole.1 is)

pub AllWhole-take : (n : ℕ) (groups : List (List Block)) → AllWhole groups → AllWhole (take n groups)
AllWhole-take zero groups whole = tt
AllWhole-take (suc n) [] whole = tt
AllWhole-take (suc n) (group ∷ groups) whole = (whole.0, AllWhole-take n groups whole.1)

pub AllWhole-set : (groups : List (List Block)) (i : ℕ) (group : List Block) → AllWhole groups → length group ≡ 256 → AllWhole (slice_set groups i group)
AllWhole-set [] i group whole is = tt
AllWhole-set (first ∷ groups) zero group whole is = (is, whole.1)
AllWhole-set (first ∷ groups) (suc i) group whole is = (whole.0, AllWhole-set groups i group whole.1 is)

pub whole_at : (groups : List (List Block)) (i : ℕ) (group : List Block) → AllWhole groups → slice_get groups i ≡ Some group → length group ≡ 256
whole_at [] i group whole is = absurd cc
whole_at (first ∷ groups) zero group whole is = let same : first ≡ group = cc in subst (λ (g : List Block). length g ≡ 256) same whole.0
whole_at (first ∷ groups) (suc i) group whole is = whole_at groups i group whole.1 is

-- a place in group k
get_at : (groups : List (List Block)) (rest group : List Block) (k j : ℕ) → AllWhole groups → slice_get groups k ≡ Some group → j < 256 → slice_get (joined groups ++ rest) (k * 256 + j) ≡ slice_get group j
get_at [] rest group k j whole is low = absurd cc
get_at (first ∷ groups) rest group zero j whole is low =
    let same : first ≡ group = cc in
    ap (λ (i : ℕ). slice_get (first ++ joined groups ++ rest) i) (omega arith)
    ∙ ap (λ (blocks : List Block). slice_get blocks j) (append_assoc first (joined groups) rest)
    ∙ slice_get-get_or (first ++ (joined groups ++ rest)) j zero_block (omega (arith, whole.0, length-append first (joined groups ++ rest)))
    ∙ ap Some (get_or_append_left first (joined groups ++ rest) zero_block j (omega (arith, whole.0)))
    ∙ sym (slice_get-get_or first j zero_block (omega (arith, whole.0))) ∙ ap (λ (blocks : List Block). slice_get blocks j) same
get_at (first ∷ groups) rest group (suc k) j whole is low =
    ap (λ (i : ℕ). slice_get (first ++ joined groups ++ rest) i) (omega (arith, whole.0))
    ∙ ap (λ (blocks : List Block). slice_get blocks (length first + (k * 256 + j))) (append_assoc first (joined groups) rest)
    ∙ slice_get-behind first (joined groups ++ rest) (k * 256 + j) ∙ get_at groups rest group k j whole.1 is low

take_to : (groups : List (List Block)) (rest group : List Block) (k j : ℕ) → AllWhole groups → slice_get groups k ≡ Some group → j < 256 → take (k * 256 + j) (joined groups ++ rest) ≡ joined (take k groups) ++ take j group
take_to [] rest group k j whole is low = absurd cc
take_to (first ∷ groups) rest group zero j whole is low =
    let same : first ≡ group = cc in
    ap (λ (i : ℕ). take i (first ++ joined groups ++ rest)) (omega arith)
    ∙ ap (take j) (append_assoc first (joined groups) rest)
    ∙ take-append-le j first (joined groups ++ rest) (omega (arith, whole.0)) ∙ ap (take j) same
take_to (first ∷ groups) rest group (suc k) j whole is low =
    ap (λ (i : ℕ). take i (first ++ joined groups ++ rest)) (omega (arith, whole.0))
    ∙ ap (take (length first + (k * 256 + j))) (append_assoc first (joined groups) rest)
    ∙ take-behind first (joined groups ++ rest) (k * 256 + j)
    ∙ ap (λ (blocks : List Block). first ++ blocks) (take_to groups rest group k j whole.1 is low)
    ∙ sym (append_assoc first (joined (take k groups)) (take j group))

set_at_place : (groups : List (List Block)) (rest group : List Block) (k j : ℕ) (block : Block) → AllWhole groups → slice_get groups k ≡ Some group → j < 256
    → slice_set (joined groups ++ rest) (k * 256 + j) block ≡ joined (slice_set groups k (slice_set group j block)) ++ rest
set_at_place [] rest group k j block whole is low = absurd cc
set_at_place (first ∷ groups) rest group zero j block whole is low =
    let same : first ≡ group = cc in
    ap (λ (i : ℕ). slice_set (first ++ joined groups ++ rest) i block) (omega arith)
    ∙ ap (λ (blocks : List Block). slice_set blocks j block) (append_assoc first (joined groups) rest)
    ∙ set-append_left first (joined groups ++ rest) j block (omega (arith, whole.0))
    ∙ sym (append_assoc (slice_set first j block) (joined groups) rest)
    ∙ ap (λ (blocks : List Block). slice_set blocks j block ++ joined groups ++ rest) same
set_at_place (first ∷ groups) rest group (suc k) j block whole is low =
    ap (λ (i : ℕ). slice_set (first ++ joined groups ++ rest) i block) (omega (arith, whole.0))
    ∙ ap (λ (blocks : List Block). slice_set blocks (length first + (k * 256 + j)) block) (append_assoc first (joined groups) rest)
    ∙ set-behind first (joined groups ++ rest) (k * 256 + j) block
    ∙ ap (λ (blocks : List Block). first ++ blocks) (set_at_place groups rest group k j block whole.1 is low)
    ∙ sym (append_assoc first (joined (slice_set groups k (slice_set group j block))) rest)

-- past all groups
none_past : (groups : List (List Block)) (i : ℕ) → slice_get groups i ≡ None → length groups ≤ i
none_past [] i none = omega arith
none_past (group ∷ groups) zero none = absurd cc
none_past (group ∷ groups) (suc i) none = omega (arith, none_past groups i none)

pub none_left : (groups : List (List Block)) (i : ℕ) → slice_get groups (i / 256) ≡ None → length groups * 256 ≤ i
none_left groups i none = omega (arith, none_past groups (i / 256) none)

module _ (groups : List (List Block)) (rest : List Block) (whole : AllWhole groups) where
  pub length-grouped : length (joined groups ++ rest) ≡ length groups * 256 + length rest
  length-grouped = omega (arith, length-append (joined groups) rest, length-joined groups whole)

  pub get_whole : (i : ℕ) (group : List Block) → slice_get groups (i / 256) ≡ Some group → slice_get (joined groups ++ rest) i ≡ slice_get group (i % 256)
  get_whole i group is = ap (slice_get (joined groups ++ rest)) (omega arith) ∙ get_at groups rest group (i / 256) (i % 256) whole is (omega arith)

  pub take_whole : (i : ℕ) (group : List Block) → slice_get groups (i / 256) ≡ Some group → take i (joined groups ++ rest) ≡ joined (take (i / 256) groups) ++ take (i % 256) group
  take_whole i group is = ap (λ (n : ℕ). take n (joined groups ++ rest)) (omega arith) ∙ take_to groups rest group (i / 256) (i % 256) whole is (omega arith)

  pub set_whole : (i : ℕ) (group : List Block) (block : Block) → slice_get groups (i / 256) ≡ Some group → slice_set (joined groups ++ rest) i block ≡ joined (slice_set groups (i / 256) (slice_set group (i % 256) block)) ++ rest
  set_whole i group block is = ap (λ (n : ℕ). slice_set (joined groups ++ rest) n block) (omega arith) ∙ set_at_place groups rest group (i / 256) (i % 256) block whole is (omega arith)

  pub past_groups : (i : ℕ) → slice_get groups (i / 256) ≡ None → length (joined groups) + (i - length groups * 256) ≡ i
  past_groups i none = omega (arith, none_past groups (i / 256) none, length-joined groups whole)

  pub get_rest : (i : ℕ) → slice_get groups (i / 256) ≡ None → slice_get (joined groups ++ rest) i ≡ slice_get rest (i - length groups * 256)
  get_rest i none = ap (slice_get (joined groups ++ rest)) (sym (past_groups i none)) ∙ slice_get-behind (joined groups) rest (i - length groups * 256)

  pub take_rest : (i : ℕ) → slice_get groups (i / 256) ≡ None → take i (joined groups ++ rest) ≡ joined groups ++ take (i - length groups * 256) rest
  take_rest i none = ap (λ (n : ℕ). take n (joined groups ++ rest)) (sym (past_groups i none)) ∙ take-behind (joined groups) rest (i - length groups * 256)

  pub set_rest : (i : ℕ) (block : Block) → slice_get groups (i / 256) ≡ None → slice_set (joined groups ++ rest) i block ≡ joined groups ++ slice_set rest (i - length groups * 256) block
  set_rest i block none = ap (λ (n : ℕ). slice_set (joined groups ++ rest) n block) (sym (past_groups i none)) ∙ set-behind (joined groups) rest (i - length groups * 256) block
