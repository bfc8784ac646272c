-- What an insert makes of a node on its way, and of the file.
use Rattle.std.specs.Prelude.{◌≡◌, ◌⊎◌, ℕ, zero, suc, ◌<◌, ◌≤◌, min, Bool, true, false, List, [], ◌∷◌, ◌++◌, length, take, drop, nat_lt, nat_le, ◌==◌, slice_get, slice_set, slice_index_or, Option, Some, IsTrue}
use Rattle.std.specs.List.{list_all}
use Rattle.std.specs.Option.{option_map_or}
use Rattle.block_host.specs.Disk.{risen}
use Rattle.forest_model.specs.declared.refusal.Refusal.{Refusal}
use Rattle.node_page.specs.Nodes.{Entry, IsNode, rises}
use Rattle.node_page.specs.declared.page.Page.{Page}
use Rattle.btree_cow.specs.Shelf.{Shelf, Later, Adds}
use Rattle.btree_cow.specs.Trees.{lies_in, Fan, NodeAt, TreeAt}
use Rattle.btree_cow.specs.Causes.{is_full}
use Rattle.btree_cow.specs.Changes.{with_entry, StaysWell, SameLimits}
use Rattle.btree_cow.specs.declared.grown.Grown.{Grown}
use Rattle.btree_cow.specs.declared.grown.Grown.TheVariants.{One, Two}

-- ---- entries

-- so many entries lie below a chunk
pub record IsCount (entries : List Entry) (chunk n : ℕ) : Type 0 where
  pub within : n ≤ length entries
  pub before : IsTrue (list_all (λ (e : Entry). nat_lt e.0 chunk) (take n entries))
  pub behind : IsTrue (list_all (λ (e : Entry). nat_le chunk e.0) (drop n entries))

-- whether the entry at a place has this chunk
abbrev pub is_at : List Entry → ℕ → ℕ → Bool
is_at entries n chunk = option_map_or (λ (e : Entry). e.0 == chunk) (slice_get entries n) false

-- entries cut at the last one that isn't above a chunk, or at the first one where there is none
pub record IsCut (entries : List Entry) (chunk n : ℕ) : Type 0 where
  pub before : List Entry
  pub chosen : Entry
  pub after : List Entry
  pub split : entries ≡ before ++ chosen ∷ after
  pub place : length before ≡ n
  pub upto : (chosen.0 ≤ chunk) ⊎ (before ≡ [])
  pub past : IsTrue (list_all (λ (e : Entry). nat_lt chunk e.0) after)

-- the child that takes a chunk, by its place and its block
pub record IsChild (children : List Entry) (chunk n block : ℕ) : Type 0 where
  pub cut : IsCut children chunk n
  pub leads : cut.chosen.1 ≡ block

-- another block for a child, whose chunk isn't above the one that was put
abbrev pub with_block : List Entry → ℕ → ℕ → ℕ → List Entry
with_block children n chunk block = slice_set children n (min (slice_index_or children n (0, 0)).0 chunk, block)

-- what came of a child in its place
abbrev pub with_child : List Entry → ℕ → ℕ → Grown → List Entry
with_child children n chunk (One block) = with_block children n chunk block
with_child children n chunk (Two left right) = with_entry (with_block children n chunk left.1) right.0 right.1

abbrev pub first_chunk : List Entry → ℕ
first_chunk [] = 0
first_chunk (e ∷ later) = e.0

-- ---- trees

-- what a node of a height with this content stands for, in the block that is added next
abbrev pub Holds : (ℕ → ℕ → Bool) → Shelf → ℕ → Bool → List Entry → ℕ → Option ℕ → List Entry → Type 0
Holds ok s zero leaf content low high entries =
    (leaf ≡ true) × (entries ≡ content) × IsTrue (list_all (lies_in low high) content)
    × IsTrue (list_all (λ (e : Entry). ok s.used e.1) content)
Holds ok s (suc height) leaf content low high entries =
    (leaf ≡ false) × (2 ≤ length content) × IsTrue (list_all (lies_in low high) content)
    × Fan (TreeAt ok s height 126) s.used content high entries

-- one node, or two, that stand for entries; the left one's chunk is no lower than the border
abbrev pub Stands : (ℕ → ℕ → Bool) → Shelf → ℕ → ℕ → Grown → ℕ → Option ℕ → List Entry → Type 0
Stands ok s height least (One at) low high entries = TreeAt ok s height least at low high entries
Stands ok s height least (Two left right) low high entries =
    (first : List Entry) × (second : List Entry) × (entries ≡ first ++ second) × (low ≤ left.0)
    × TreeAt ok s height 126 left.1 left.0 (Some right.0) first × TreeAt ok s height 126 right.1 right.0 high second

-- whatever a node with this content stands for, it does so as it was stored
pub record Stores (leaf : Bool) (content : List Entry) (old new : Shelf) (grown : Grown) : Type 0 where
  pub each : (ok : ℕ → ℕ → Bool) (height least low : ℕ) (high : Option ℕ) (entries : List Entry) → StaysWell ok
      → least ≤ length content → Holds ok old height leaf content low high entries → Stands ok new height least grown low high entries

-- whatever a tree stood for, what came of it stands for this with the value for the chunk
pub record Puts (at chunk value : ℕ) (old new : Shelf) (grown : Grown) : Type 0 where
  pub each : (ok : ℕ → ℕ → Bool) (height least low : ℕ) (high : Option ℕ) (entries : List Entry) → StaysWell ok
      → IsTrue (ok old.used value) → IsTrue (lies_in low high (chunk, value)) → TreeAt ok old height least at low high entries
      → Stands ok new height least grown low high (with_entry entries chunk value)

-- the chunks of two nodes rise
abbrev pub IsApart : Grown → Type 0
IsApart (One at) = Unit {0}
IsApart (Two left right) = left.0 < right.0

-- ---- the file

-- the node of a block, by what is told, and what each node has
pub record IsRead (tells : Bool) (s : Shelf) (at : ℕ) (leaf : Bool) (content : List Entry) : Type 0 where
  pub node : IsTrue tells → NodeAt s at leaf content
  pub some : 1 ≤ length content
  pub most : length content ≤ 253
  pub rise : IsTrue (rises content)

-- a node was added
pub record AddsNode (leaf : Bool) (content : List Entry) (old new : Shelf) (at : ℕ) : Type 0 where
  pub page : Page
  pub adds : Adds 2 page at old new
  pub node : IsNode page leaf content

-- nodes were added, if any, and faults counted
pub record Appends (tells : Bool) (old new : Shelf) (before after : ℕ) : Type 0 where
  pub later : IsTrue tells → Later old new
  pub limits : SameLimits old new
  pub counts : before ≤ after

-- a tree of a height stands in a block, and this is told
pub record HasHeight (tells : Bool) (s : Shelf) (at height : ℕ) : Type 0 where
  pub told : IsTrue tells
  pub ok : ℕ → ℕ → Bool
  pub least : ℕ
  pub low : ℕ
  pub high : Option ℕ
  pub entries : List Entry
  pub tree : TreeAt ok s height least at low high entries

-- so many links at most lead down from a block: as many as are left, or those of a tree there
abbrev pub GoesDown : Bool → ℕ → Shelf → ℕ → ℕ → Type 0
GoesDown tells left s at links = (links ≡ left) ⊎ HasHeight tells s at links

-- the reasons not to add a node
abbrev pub AppendFails : Shelf → ℕ → ℕ → Refusal → Type 0
AppendFails new before after why =
    ((why ≡ Refusal.DiskFault) × (risen before ≤ after)) ⊎ ((why ≡ is_full new) × (new.most ≤ new.used))
