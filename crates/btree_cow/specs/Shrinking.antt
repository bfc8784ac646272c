-- What a removal makes of a node on its way, and of the file.
use Rattle.std.specs.Prelude.{◌≡◌, ℕ, zero, suc, ◌+◌, ◌-◌, ◌<◌, ◌≤◌, Bool, true, false, List, ◌∷◌, ◌++◌, length, remove, slice_set, slice_index_or, Option, Some, None, IsTrue, if◌then◌else◌}
use Rattle.std.specs.List.{list_all}
use Rattle.node_page.specs.Nodes.{Entry, rises}
use Rattle.btree_cow.specs.Shelf.{Shelf, LieBelow, Later}
use Rattle.btree_cow.specs.Trees.{lies_in, border, Fan, NodeAt, TreeAt, Tree}
use Rattle.btree_cow.specs.Changes.{with_entry, without_entry, StaysWell}
use Rattle.btree_cow.specs.Growing.{IsCut}
use Rattle.btree_cow.specs.declared.grown.Grown.{Grown}
use Rattle.btree_cow.specs.declared.grown.Grown.TheVariants.{One, Two}
use Rattle.btree_cow.specs.declared.shrunk.Shrunk.{Shrunk}
use Rattle.btree_cow.specs.declared.shrunk.Shrunk.TheVariants.{Absent, Stored, Short}

-- ---- entries

-- another block for the child at a place
abbrev pub led_to : List Entry → ℕ → ℕ → List Entry
led_to children place block = slice_set children place ((slice_index_or children place (0, 0)).0, block)

-- what two neighbours became, for the one at a place and the next one
abbrev pub with_joined : List Entry → ℕ → Grown → List Entry
with_joined children place (One block) = remove (led_to children place block) (place + 1)
with_joined children place (Two left right) = with_entry (remove (led_to children place left.1) (place + 1)) right.0 right.1

-- entries in front of others, or behind them
abbrev pub side_by_side : Bool → List Entry → List Entry → List Entry
side_by_side in_front others entries = if in_front then others ++ entries else entries ++ others

-- the place of the first one, of a child and its neighbour
abbrev pub first_place : Bool → ℕ → ℕ
first_place in_front place = if in_front then place - 1 else place

-- two children one behind the other
pub record IsPair (children : List Entry) (place : ℕ) (left right : Entry) : Type 0 where
  pub front : List Entry
  pub back : List Entry
  pub split : children ≡ front ++ left ∷ right ∷ back
  pub here : length front ≡ place

-- the neighbour of the child at a place, in front of it or behind it
abbrev pub IsNeighbour : List Entry → ℕ → Bool → ℕ → Type 0
IsNeighbour children place true block = (before : ℕ) × (place ≡ before + 1) × (left : Entry) × (right : Entry) × IsPair children before left right × (left.1 ≡ block)
IsNeighbour children place false block = (left : Entry) × (right : Entry) × IsPair children place left right × (right.1 ≡ block)

-- ---- trees

-- what a node of a height with this content stands for in the block that is added next, however few entries it has
abbrev pub Content : (ℕ → ℕ → Bool) → Shelf → ℕ → Bool → List Entry → ℕ → Option ℕ → List Entry → Type 0
Content ok s zero leaf content low high entries =
    (leaf ≡ true) × (entries ≡ content) × IsTrue (list_all (lies_in low high) content)
    × IsTrue (list_all (λ (e : Entry). ok s.used e.1) content)
Content ok s (suc height) leaf content low high entries =
    (leaf ≡ false) × (1 ≤ length content) × IsTrue (list_all (lies_in low high) content)
    × Fan (TreeAt ok s height 126) s.used content high entries

-- what stands for entries after a removal: a node, or a content with at most one entry less than a node has
abbrev pub Remains : (ℕ → ℕ → Bool) → Shelf → ℕ → ℕ → ℕ → Option ℕ → List Entry → Shrunk → Type 0
Remains ok s height least low high entries Absent = ⊥
Remains ok s height least low high entries (Stored block) = TreeAt ok s height least block low high entries
Remains ok s height least low high entries (Short node) =
    Content ok s height node.leaf node.entries.items low high entries × (least ≤ length node.entries.items + 1)

-- nothing changes where the chunk is absent
abbrev pub Left : (ℕ → ℕ → Bool) → Shelf → ℕ → ℕ → ℕ → Option ℕ → List Entry → ℕ → Shrunk → Type 0
Left ok s height least low high entries chunk Absent = without_entry entries chunk ≡ entries
Left ok s height least low high entries chunk (Stored block) =
    Remains ok s height least low high (without_entry entries chunk) (Stored block) × (length (without_entry entries chunk) < length entries)
Left ok s height least low high entries chunk (Short node) =
    Remains ok s height least low high (without_entry entries chunk) (Short node) × (length (without_entry entries chunk) < length entries)

-- whatever a tree stood for, what it became stands for this without the chunk
pub record Removes (at chunk : ℕ) (old new : Shelf) (shrunk : Shrunk) : Type 0 where
  pub each : (ok : ℕ → ℕ → Bool) (height least low : ℕ) (high : Option ℕ) (entries : List Entry) → StaysWell ok → least ≤ 126
      → TreeAt ok old height least at low high entries → Left ok new height least low high entries chunk shrunk

-- whatever a content stands for, what is left of it does so
pub record Settles (leaf : Bool) (content : List Entry) (old new : Shelf) (shrunk : Shrunk) : Type 0 where
  pub each : (ok : ℕ → ℕ → Bool) (height least low : ℕ) (high : Option ℕ) (entries : List Entry) → StaysWell ok → least ≤ 126
      → least ≤ length content + 1 → Content ok old height leaf content low high entries → Remains ok new height least low high entries shrunk

-- the content of an unstored node is short and rises
abbrev pub IsShort : Shrunk → Type 0
IsShort Absent = Unit {0}
IsShort (Stored block) = Unit {0}
IsShort (Short node) = (length node.entries.items < 126) × IsTrue (rises node.entries.items)

-- where the chunk is absent the file is as it was
abbrev pub IsSame : Shelf → Shelf → Shrunk → Type 0
IsSame old new Absent = new ≡ old
IsSame old new (Stored block) = Unit {0}
IsSame old new (Short node) = Unit {0}

-- the chunk wasn't absent
abbrev pub IsChanged : Shrunk → Type 0
IsChanged Absent = ⊥
IsChanged (Stored block) = Unit {0}
IsChanged (Short node) = Unit {0}

-- children of which one, at a place, isn't stored, and has this content
pub record Gap (ok : ℕ → ℕ → Bool) (s : Shelf) (height : ℕ) (leaf : Bool) (content children : List Entry) (place low : ℕ) (high : Option ℕ) (entries : List Entry) : Type 0 where
  pub before : List Entry
  pub chosen : Entry
  pub after : List Entry
  pub split : children ≡ before ++ chosen ∷ after
  pub here : length before ≡ place
  pub first : List Entry
  pub own : List Entry
  pub rest : List Entry
  pub together : entries ≡ first ++ (own ++ rest)
  pub ahead : Fan (TreeAt ok s height 126) s.used before (Some chosen.0) first
  pub holds : Content ok s height leaf content chosen.0 (border after high) own
  pub enough : 125 ≤ length content
  pub behind : Fan (TreeAt ok s height 126) s.used after high rest
  pub lies : IsTrue (list_all (lies_in low high) children)

-- whatever children with a gap stand for, those that took their place do so
pub record Refills (leaf : Bool) (content children : List Entry) (place : ℕ) (old new : Shelf) (after : List Entry) : Type 0 where
  pub each : (ok : ℕ → ℕ → Bool) (height low : ℕ) (high : Option ℕ) (entries : List Entry) → StaysWell ok → 2 ≤ length children
      → Gap ok old height leaf content children place low high entries
      → Content ok new (suc height) false after low high entries × (length children ≤ length after + 1)

-- what became of a child leads to what becomes of its node
pub record Passes (children : List Entry) (place : ℕ) (shrunk : Shrunk) (old new : Shelf) (result : Shrunk) : Type 0 where
  pub each : (first : Shelf) (at chunk : ℕ) (cut : IsCut children chunk place) → LieBelow first → Later first old → NodeAt first at false children
      → Removes cut.chosen.1 chunk first old shrunk → Removes at chunk first new result

-- whatever a content stands for, the root of it does so
pub record Roots (leaf : Bool) (content : List Entry) (old new : Shelf) (root : Option ℕ) : Type 0 where
  pub each : (ok : ℕ → ℕ → Bool) (height : ℕ) (entries : List Entry) → StaysWell ok
      → Content ok old height leaf content 0 None entries → Tree ok new root entries
