-- What changes make of the entries of a tree.
use Rattle.std.specs.Prelude.{◌≡◌, ℕ, ◌≤◌, Bool, true, ◌&&◌, not, ◌==◌, List, [], ◌∷◌, filter, nat_lt, Option, Some, None, IsTrue, if◌then◌else◌}
use Rattle.std.specs.List.{list_all}
use Rattle.std.specs.Option.{is_none, option_map_or}
use Rattle.node_page.specs.Nodes.{Entry}
use Rattle.btree_cow.specs.Shelf.{Shelf}
use Rattle.btree_cow.specs.Trees.{value_of}

-- with a value for a chunk, in place of an older one
abbrev pub with_entry : List Entry → ℕ → ℕ → List Entry
with_entry [] chunk value = (chunk, value) ∷ []
with_entry (e ∷ later) chunk value =
    if nat_lt chunk e.0 then (chunk, value) ∷ e ∷ later
    else (if e.0 == chunk then (chunk, value) ∷ later else e ∷ with_entry later chunk value)

-- without a chunk
abbrev pub without_entry : List Entry → ℕ → List Entry
without_entry entries chunk = filter (λ (e : Entry). not (e.0 == chunk)) entries

-- a change of a chunk: a value for it, or none
abbrev pub Change : Type 0
Change = ℕ × Option ℕ

abbrev pub after_change : List Entry → Change → List Entry
after_change entries (chunk, Some value) = with_entry entries chunk value
after_change entries (chunk, None) = without_entry entries chunk

abbrev pub after_changes : List Entry → List Change → List Entry
after_changes entries [] = entries
after_changes entries (c ∷ changes) = after_changes (after_change entries c) changes

-- what is well for a leaf in one block is well for a leaf in a later one
abbrev pub StaysWell : (ℕ → ℕ → Bool) → Type 0
StaysWell ok = (at later value : ℕ) → at ≤ later → IsTrue (ok at value) → IsTrue (ok later value)

-- the numbers of a file to which blocks were added at most
pub record SameLimits (old new : Shelf) : Type 0 where
  pub lender : new.lender ≡ old.lender
  pub file : new.file ≡ old.file
  pub used : old.used ≤ new.used
  pub most : new.most ≡ old.most
  pub max : new.max ≡ old.max

-- the chunks of changes strictly rise
abbrev pub changes_rise : List Change → Bool
changes_rise [] = true
changes_rise (c ∷ later) = list_all (λ (other : Change). nat_lt c.0 other.0) later && changes_rise later

-- the value that a change puts, if any, is well for a leaf in a block
abbrev pub is_well : (ℕ → ℕ → Bool) → ℕ → Change → Bool
is_well ok at c = option_map_or (λ (value : ℕ). ok at value) c.1 true

abbrev pub put_well : (ℕ → ℕ → Bool) → ℕ → List Change → Bool
put_well ok at changes = list_all (is_well ok at) changes

-- the removal of a chunk that isn't there
abbrev pub is_absent : List Entry → Change → Bool
is_absent entries c = is_none c.1 && is_none (value_of entries c.0)
