-- B+-trees in the blocks of a file, and the entries that they stand for.
use Rattle.std.specs.Prelude.{◌≡◌, ℕ, zero, suc, ◌<◌, ◌≤◌, Bool, true, false, ◌||◌, ◌&&◌, ◌==◌, List, [], ◌∷◌, ◌++◌, length, nat_lt, nat_le, find, reverse, Option, Some, None, IsTrue, if◌then◌else◌}
use Rattle.std.specs.List.{list_all}
use Rattle.std.specs.Option.{option_map, option_map_or}
use Rattle.node_page.specs.Nodes.{Entry, IsNode}
use Rattle.node_page.specs.declared.page.Page.{Page}
use Rattle.btree_cow.specs.Shelf.{Shelf, is_stored}

-- the page of a block is the node of these entries
abbrev pub NodeAt : Shelf → ℕ → Bool → List Entry → Type 0
NodeAt s at leaf entries = (page : Page) × is_stored s 2 at page × IsNode page leaf entries

-- a chunk at or above a border, and below another one, where there is one
abbrev pub lies_in : ℕ → Option ℕ → Entry → Bool
lies_in low high e = nat_le low e.0 && option_map_or (λ (h : ℕ). nat_lt e.0 h) high true

-- the border between a child and its next sibling, else that of the node
abbrev pub border : List Entry → Option ℕ → Option ℕ
border [] high = high
border (next ∷ later) high = Some next.0

-- Children one after another, each below its node: `Below child low high entries` says what a child stands for.
abbrev pub Fan : (ℕ → ℕ → Option ℕ → List Entry → Type 0) → ℕ → List Entry → Option ℕ → List Entry → Type 0
Fan Below at [] high entries = entries ≡ []
Fan Below at (c ∷ children) high entries =
    (c.1 < at) × (first : List Entry) × (rest : List Entry) × (entries ≡ first ++ rest)
    × Below c.1 c.0 (border children high) first × Fan Below at children high rest

-- The tree of a height in a block stands for these entries, all in the borders. Its node has at least so many entries,
-- an inner one at least two; every other node has at least 126. `ok` is asked of each value and its leaf's block.
abbrev pub TreeAt : (ℕ → ℕ → Bool) → Shelf → ℕ → ℕ → ℕ → ℕ → Option ℕ → List Entry → Type 0
TreeAt ok s zero least at low high entries =
    NodeAt s at true entries × (least ≤ length entries) × IsTrue (list_all (lies_in low high) entries)
    × IsTrue (list_all (λ (e : Entry). ok at e.1) entries)
TreeAt ok s (suc height) least at low high entries =
    (children : List Entry) × NodeAt s at false children × (least ≤ length children) × (2 ≤ length children)
    × IsTrue (list_all (lies_in low high) children)
    × Fan (TreeAt ok s height 126) at children high entries

-- What a root stands for: no root for no entry, else a tree of some height.
abbrev pub Tree : (ℕ → ℕ → Bool) → Shelf → Option ℕ → List Entry → Type 0
Tree ok s None entries = entries ≡ []
Tree ok s (Some at) entries = (height : ℕ) × TreeAt ok s height 1 at 0 None entries

-- the value of a chunk
abbrev pub value_of : List Entry → ℕ → Option ℕ
value_of entries chunk = option_map (λ (e : Entry). e.1) (find (λ (e : Entry). e.0 == chunk) entries)

-- whether a search from a chunk upwards, or downwards, comes to another; `with` has it come to the chunk itself
abbrev pub is_past : Bool → Bool → ℕ → ℕ → Bool
is_past with up q n = (with && (q == n)) || (if up then nat_lt q n else nat_lt n q)

-- the nearest entry that the search comes to
abbrev pub nearest : Bool → Bool → List Entry → ℕ → Option Entry
nearest with up entries q = find (λ (e : Entry). is_past with up q e.0) (if up then entries else reverse entries)
