-- Reading one thing after the other, as a loop does.
use Rattle.std.proofs.Common.{◌≡◌, ℕ, zero, suc, ◌+◌, ◌-◌, ◌<◌, ◌≤◌, List, [], ◌∷◌, ◌++◌, length, Bool, true, false, Option, Some, None, IsTrue, ◌⊎◌, inl, inr, refl, sym, ap, ◌∙◌, append_assoc, arith}
use Rattle.std.specs.Prelude.{◌||◌}
use Rattle.std.specs.Option.{is_some}
use Rattle.std.proofs.lemmas.List.{append-nil}
use Rattle.forest_model.specs.declared.call.Item.{Item}
use Rattle.script_text.specs.declared.unread.Unread.{Unread}
use Rattle.script_text.specs.declared.unread.Unread.TheVariants as unread
use Rattle.script_text.specs.Reading.{◌>>=◌, Fails, none_left, byte_at, bytes_at, item_at, items_at, item_takes_memory, batch_takes_memory}

-- what was read before, and what is still read
abbrev pub with_bytes : List ℕ → Option (List ℕ) → Option (List ℕ)
with_bytes front read = read >>= λ others. Some (front ++ others)

bytes_regroup : (front : List ℕ) (b : ℕ) (read : Option (List ℕ)) → with_bytes front (read >>= λ others. Some (b ∷ others)) ≡ with_bytes (front ++ b ∷ []) read
bytes_regroup front b None = refl
bytes_regroup front b (Some others) = ap (λ (t : List ℕ). Some t) (sym (append_assoc front (b ∷ []) others))

pub bytes_begin : (w : List ℕ) → with_bytes [] (bytes_at (length w) w) ≡ bytes_at (length w) w
bytes_begin w = same (bytes_at (length w) w)
  where
    same : (o : Option (List ℕ)) → with_bytes [] o ≡ o
    same None = refl
    same (Some t) = refl

pub bytes_go_on : (front : List ℕ) (n : ℕ) (w : List ℕ) (b : ℕ) (after : List ℕ) (total : Option (List ℕ)) → 0 < length w → length w ≤ n → byte_at w ≡ Some (b, after) → length after < length w
    → with_bytes front (bytes_at n w) ≡ total → (m : ℕ) × (length after ≤ m) × (with_bytes (front ++ b ∷ []) (bytes_at m after) ≡ total)
unfolding bytes_at
bytes_go_on front n [] b after total full short e less so_far = absurd (omega arith)
bytes_go_on front zero (c ∷ w) b after total full short e less so_far = absurd (omega arith)
bytes_go_on front (suc n) (c ∷ w) b after total full short e less so_far =
    let one : with_bytes front (bytes_at (suc n) (c ∷ w)) ≡ with_bytes (front ++ b ∷ []) (bytes_at n after) = rw e (bytes_regroup front b (bytes_at n after)) in
    (n, omega arith, sym one ∙ so_far)

pub bytes_end : (front : List ℕ) (n : ℕ) (w : List ℕ) (total : Option (List ℕ)) → 0 < length w → length w ≤ n → byte_at w ≡ None → with_bytes front (bytes_at n w) ≡ total → total ≡ None
unfolding bytes_at
bytes_end front n [] total full short e so_far = absurd (omega arith)
bytes_end front zero (c ∷ w) total full short e so_far = absurd (omega arith)
bytes_end front (suc n) (c ∷ w) total full short e so_far =
    let one : with_bytes front (bytes_at (suc n) (c ∷ w)) ≡ None = rw e refl in
    sym so_far ∙ one

pub bytes_are_done : (front : List ℕ) (n : ℕ) (w : List ℕ) (total : Option (List ℕ)) → length w ≡ 0 → with_bytes front (bytes_at n w) ≡ total → total ≡ Some front
unfolding bytes_at
bytes_are_done front n [] total none so_far = sym so_far ∙ ap (λ (t : List ℕ). Some t) (append-nil front)
bytes_are_done front n (c ∷ w) total none so_far = absurd (omega arith)

-- ---- items

abbrev pub with_items : List Item → Option (List Item × List (List ℕ)) → Option (List Item × List (List ℕ))
with_items front read = read >>= λ others. Some (front ++ others.0, others.1)

items_regroup : (front : List Item) (x : Item) (read : Option (List Item × List (List ℕ))) → with_items front (read >>= λ others. Some (x ∷ others.0, others.1)) ≡ with_items (front ++ x ∷ []) read
items_regroup front x None = refl
items_regroup front x (Some others) = ap (λ (xs : List Item). Some (xs, others.1)) (sym (append_assoc front (x ∷ []) others.0))

pub items_begin : (read : Option (List Item × List (List ℕ))) → with_items [] read ≡ read
items_begin None = refl
items_begin (Some others) = refl

pub items_go_on : (front : List Item) (most i : ℕ) (ws : List (List ℕ)) (x : Item) (after : List (List ℕ)) (total : Option (List Item × List (List ℕ))) → i < most → none_left ws ≡ false → item_at ws ≡ Some (x, after)
    → with_items front (items_at (most - i) ws) ≡ total → with_items (front ++ x ∷ []) (items_at (most - (i + 1)) after) ≡ total
unfolding items_at
items_go_on front most i ws x after total lt more e so_far =
    let k : most - i ≡ suc (most - (i + 1)) = omega arith in
    let one : with_items front (items_at (most - i) ws) ≡ with_items (front ++ x ∷ []) (items_at (most - (i + 1)) after) = rw (k, more, e) (items_regroup front x (items_at (most - (i + 1)) after)) in
    sym one ∙ so_far

pub items_end : (e : Unread) (front : List Item) (most i : ℕ) (ws : List (List ℕ)) (total : Option (List Item × List (List ℕ))) → i < most → none_left ws ≡ false → Fails e (item_at ws) → with_items front (items_at (most - i) ws) ≡ total → Fails e total
unfolding items_at
items_end unread.NoMemory front most i ws total lt more h so_far = tt
items_end unread.NotALine front most i ws total lt more h so_far =
    let k : most - i ≡ suc (most - (i + 1)) = omega arith in
    let one : with_items front (items_at (most - i) ws) ≡ None = rw (k, more, h) refl in
    sym so_far ∙ one

pub items_are_done : (front : List Item) (most i : ℕ) (ws : List (List ℕ)) (total : Option (List Item × List (List ℕ))) → i < most → none_left ws ≡ true → with_items front (items_at (most - i) ws) ≡ total → total ≡ Some (front, ws)
unfolding items_at
items_are_done front most i ws total lt done so_far =
    let k : most - i ≡ suc (most - (i + 1)) = omega arith in
    let one : with_items front (items_at (most - i) ws) ≡ Some (front, ws) = rw (k, done) (ap (λ (xs : List Item). Some (xs, ws)) (append-nil front)) in
    sym so_far ∙ one

pub items_are_full : (front : List Item) (most i : ℕ) (ws : List (List ℕ)) (total : Option (List Item × List (List ℕ))) → most ≤ i → with_items front (items_at (most - i) ws) ≡ total → total ≡ Some (front, ws)
unfolding items_at
items_are_full front most i ws total le so_far =
    let k : most - i ≡ 0 = omega arith in
    let one : with_items front (items_at (most - i) ws) ≡ Some (front, ws) = rw k (ap (λ (xs : List Item). Some (xs, ws)) (append-nil front)) in
    sym so_far ∙ one

-- the words that are left are all of them, or the first item was read
abbrev pub IsBegun : List (List ℕ) → List (List ℕ) → Type 0
IsBegun first ws = (ws ≡ first) ⊎ IsTrue (is_some (item_at first))

pub begun_on : (first ws : List (List ℕ)) (x : Item × List (List ℕ)) → IsBegun first ws → item_at ws ≡ Some x → IsTrue (is_some (item_at first))
begun_on first ws x begun e = elim begun [ inl same ↦ ap (λ r. is_some (item_at r)) (sym same) ∙ ap is_some e | inr read ↦ read ]

pub batch_read : (first : List (List ℕ)) → IsTrue (is_some (item_at first)) → IsTrue (batch_takes_memory first)
unfolding batch_takes_memory
batch_read first read = rw read refl

pub batch_item : (first ws : List (List ℕ)) → IsBegun first ws → IsTrue (item_takes_memory ws) → IsTrue (batch_takes_memory first)
unfolding batch_takes_memory
batch_item first ws begun takes = elim begun [ inl same ↦ by (is_some (item_at first)) (ap item_takes_memory (sym same) ∙ takes) | inr read ↦ rw read refl ]
  where
    by : (b : Bool) → item_takes_memory first ≡ true → (b || item_takes_memory first) ≡ true
    by true e = refl
    by false e = e
