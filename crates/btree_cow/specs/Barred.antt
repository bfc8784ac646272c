-- What bars a way down a tree: the block on it by which it goes no further.
use Rattle.std.specs.Prelude.{◌≡◌, ◌⊎◌, ℕ, ◌+◌, ◌<◌, ◌≤◌, Bool, false, List, Option, Some, None, IsTrue}
use Rattle.block_host.specs.Disk.{risen}
use Rattle.forest_model.specs.declared.refusal.Refusal.{Refusal}
use Rattle.node_page.specs.Nodes.{Entry}
use Rattle.btree_cow.specs.Shelf.{Shelf}
use Rattle.btree_cow.specs.Trees.{NodeAt}
use Rattle.btree_cow.specs.Causes.{IsNoNode, IsTooDeep}
use Rattle.btree_cow.specs.Walks.{IsChoice, WayFor, WayBeside, EndsAt, edge}

-- a child that isn't below its node, or whose sibling isn't
abbrev pub IsHigh : ℕ → ℕ → Option ℕ → Type 0
IsHigh at child sibling = (at ≤ child) ⊎ ((other : ℕ) × (sibling ≡ Some other) × (at ≤ other))

-- a block is an inner node, and the child in which a chunk can lie isn't below it, or its sibling isn't
abbrev pub HasHighChoice : Shelf → Bool → ℕ → ℕ → Type 0
HasHighChoice s up q at =
    (children : List Entry) × NodeAt s at false children × (child : ℕ) × (sibling : Option ℕ) × IsChoice up q children child sibling × IsHigh at child sibling

-- from a block no way leads on for a chunk, nor does it end there: it is no node, or the way on isn't below it
abbrev pub Bars : Shelf → Bool → ℕ → ℕ → Type 0
Bars s up q at = IsNoNode s at ⊎ HasHighChoice s up q at

-- a block so deep bars the way for a chunk, or is an inner node as deep as no tree has one
abbrev pub IsBroken : Shelf → Bool → ℕ → ℕ → ℕ → Type 0
IsBroken s up q depth at = Bars s up q at ⊎ IsTooDeep s depth at

-- a block that is broken, on the way for a chunk from a block so deep, and not deeper than nine links
pub record BreaksOnWay (s : Shelf) (up : Bool) (q depth from block : ℕ) : Type 0 where
  pub links : ℕ
  pub way : WayFor s up q links from block
  pub shallow : depth + links ≤ 9
  pub broken : IsBroken s up q (depth + links) block

-- a block that is broken, on the way for a chunk from a root
abbrev pub BreaksWay : Shelf → Bool → ℕ → ℕ → ℕ → Type 0
BreaksWay s up q root block = BreaksOnWay s up q 0 root block

-- what bars the search of a chunk's value: a block on its way from the root
abbrev pub BreaksFind : Shelf → Option ℕ → ℕ → ℕ → Type 0
BreaksFind s root q block = (at : ℕ) × (root ≡ Some at) × BreaksWay s false q at block

-- A sibling so deep beside the way for a chunk to a block: that of the last node on it that has one.
pub record IsBeside (s : Shelf) (up : Bool) (q from depth sibling block : ℕ) : Type 0 where
  pub links : ℕ
  pub parent : ℕ
  pub way : WayFor s up q links from parent
  pub children : List Entry
  pub node : NodeAt s parent false children
  pub child : ℕ
  pub choice : IsChoice up q children child (Some sibling)
  pub below : child < parent
  pub beside : sibling < parent
  pub more : ℕ
  pub rest : WayBeside s up q more child None block None
  pub few : links + 1 + more ≤ 9
  pub depth_is : depth ≡ links + 1

-- what bars a search that finds nothing at the end of a chunk's way: a block on the first way below the sibling nearest to it
abbrev pub BreaksBeside : Shelf → Bool → Bool → ℕ → ℕ → ℕ → Type 0
BreaksBeside s with up q root block =
    (depth : ℕ) × (sibling : ℕ) × (end : ℕ) × IsBeside s up q root depth sibling end × EndsAt s with up q end None
    × BreaksOnWay s up (edge up) depth sibling block

-- what bars the search of the entry nearest to a chunk: a block on the chunk's way, or on the one where the search goes on
abbrev pub BreaksSearch : Shelf → Bool → Bool → Option ℕ → ℕ → ℕ → Type 0
BreaksSearch s with up root q block = (at : ℕ) × (root ≡ Some at) × (BreaksWay s up q at block ⊎ BreaksBeside s with up q at block)

-- ---- refusals

-- a damaged block that is named is one of the file, and not above a block
abbrev pub NamesUnder : ℕ → ℕ → Refusal → Type 0
NamesUnder file at why = (other block : ℕ) → why ≡ Refusal.Damaged other block → (other ≡ file) × (block ≤ at)

-- a damaged block that is named is one of the file, and not above the root
abbrev pub NamesBelow : ℕ → Option ℕ → Refusal → Type 0
NamesBelow file root why = (other block : ℕ) → why ≡ Refusal.Damaged other block → (at : ℕ) × (root ≡ Some at) × (other ≡ file) × (block ≤ at)

-- the reasons not to give a node: a count of faults that rose, or the block asked for, which is none
abbrev pub NodeFails : Bool → Shelf → ℕ → ℕ → ℕ → Refusal → Type 0
NodeFails tells s at before after why =
    ((why ≡ Refusal.DiskFault) × (risen before ≤ after))
    ⊎ ((why ≡ Refusal.Damaged s.file at) × (IsTrue tells → IsNoNode s at))
