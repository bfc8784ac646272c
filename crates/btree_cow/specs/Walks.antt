-- What a walk down a tree finds on its way.
use Rattle.std.specs.Prelude.{◌≡◌, ◌⊎◌, ℕ, zero, suc, ◌-◌, ◌^◌, ◌<◌, ◌≤◌, Bool, true, false, not, List, [], ◌∷◌, ◌++◌, length, take, drop, nat_lt, Option, Some, None, IfSome, IsTrue, if◌then◌else◌}
use Rattle.std.specs.List.{list_all}
use Rattle.std.specs.Option.{option_or}
use Rattle.node_page.specs.Nodes.{Entry}
use Rattle.btree_cow.specs.Shelf.{Shelf}
use Rattle.btree_cow.specs.Trees.{NodeAt, is_past, nearest, value_of}

-- an entry that a search upwards comes to, or that one downwards never comes to
abbrev pub is_late : Bool → Bool → ℕ → Entry → Bool
is_late with up q e = if up then is_past with up q e.0 else not (is_past with up q e.0)

-- the count of entries before the first late one
pub record IsRank (late : Entry → Bool) (entries : List Entry) (n : ℕ) : Type 0 where
  pub within : n ≤ length entries
  pub early : IsTrue (list_all (λ (e : Entry). not (late e)) (take n entries))
  pub behind : IsTrue (list_all late (drop n entries))

-- the child behind those before, or before those behind
abbrev pub IsSibling : Bool → List Entry → List Entry → Option ℕ → Type 0
IsSibling true before after None = after ≡ []
IsSibling false before after None = before ≡ []
IsSibling true before after (Some s) = (x : Entry) × (later : List Entry) × (after ≡ x ∷ later) × (x.1 ≡ s)
IsSibling false before after (Some s) = (front : List Entry) × (x : Entry) × (before ≡ front ++ x ∷ []) × (x.1 ≡ s)

-- the child in which a chunk can lie, and the one where the search goes on
pub record IsChoice (up : Bool) (q : ℕ) (children : List Entry) (child : ℕ) (sibling : Option ℕ) : Type 0 where
  pub before : List Entry
  pub chosen : Entry
  pub after : List Entry
  pub split : children ≡ before ++ chosen ∷ after
  pub child_is : chosen.1 ≡ child
  pub upto : (chosen.0 ≤ q) ⊎ ((up ≡ true) × (before ≡ []))
  pub past : IsTrue (list_all (λ (e : Entry). nat_lt q e.0) after)
  pub sibling_is : IsSibling up before after sibling

-- the chunk from which a search comes to every entry
abbrev pub edge : Bool → ℕ
edge up = if up then 0 else 2 ^ 64 - 1

-- the first entry that a search comes to at all
abbrev pub first_of : Bool → List Entry → Option Entry
first_of up entries = nearest true up entries (edge up)

-- what a search in entries comes to first: an entry of some of them, else the first one of the sibling's
abbrev pub GoesOn : (ℕ → ℕ → Option ℕ → List Entry → Type 0) → Bool → Bool → ℕ → List Entry → List Entry → Option ℕ → Type 0
GoesOn Stands with up q entries first None = nearest with up entries q ≡ nearest with up first q
GoesOn Stands with up q entries first (Some sibling) =
    (low : ℕ) × (high : Option ℕ) × (others : List Entry) × Stands sibling low high others
    × (nearest with up entries q ≡ option_or (nearest with up first q) (first_of up others))

-- so many links lead down from a block to another, each from an inner node to the child in which a chunk can lie, which
-- is below it
abbrev pub WayFor : Shelf → Bool → ℕ → ℕ → ℕ → ℕ → Type 0
WayFor s up q zero at block = at ≡ block
WayFor s up q (suc more) at block =
    (children : List Entry) × NodeAt s at false children × (child : ℕ) × (sibling : Option ℕ) × IsChoice up q children child sibling
    × (child < at) × WayFor s up q more child block

-- where a search of a chunk ends: at the nearest entry of a leaf, or over an inner node with all its chunks above
abbrev pub EndsAt : Shelf → Bool → Bool → ℕ → ℕ → Option Entry → Type 0
EndsAt s with up q block entry =
    ((leaf : List Entry) × NodeAt s block true leaf × (entry ≡ nearest with up leaf q))
    ⊎ ((children : List Entry) × NodeAt s block false children × (up ≡ false) × IsTrue (list_all (λ (e : Entry). nat_lt q e.0) children) × (entry ≡ None))

-- what a search finds at the end of the way for a chunk, each block of which was a node
pub record Reaches (s : Shelf) (with up : Bool) (q at : ℕ) (entry : Option Entry) : Type 0 where
  pub links : ℕ
  pub few : links ≤ 9
  pub block : ℕ
  pub way : WayFor s up q links at block
  pub end : EndsAt s with up q block entry

-- so many links lead down as in `WayFor`, the siblings beside them too, and the one beside the last of them that has
-- one, else the earlier one
abbrev pub WayBeside : Shelf → Bool → ℕ → ℕ → ℕ → Option ℕ → ℕ → Option ℕ → Type 0
WayBeside s up q zero at earlier block last = (at ≡ block) × (last ≡ earlier)
WayBeside s up q (suc more) at earlier block last =
    (children : List Entry) × NodeAt s at false children × (child : ℕ) × (sibling : Option ℕ) × IsChoice up q children child sibling
    × (child < at) × IfSome sibling (λ (other : ℕ). other < at) × WayBeside s up q more child (option_or sibling earlier) block last

-- what a search finds as in `Reaches`, and the sibling beside its way that is nearest to the end, where there is one
pub record ReachesBeside (s : Shelf) (with up : Bool) (q at : ℕ) (entry : Option Entry) (last : Option ℕ) : Type 0 where
  pub links : ℕ
  pub few : links ≤ 9
  pub block : ℕ
  pub way : WayBeside s up q links at None block last
  pub end : EndsAt s with up q block entry

-- the value of a chunk where its way ends: in a leaf that of its entry, over an inner node with all chunks above none
abbrev pub HasValue : Shelf → ℕ → ℕ → Option ℕ → Type 0
HasValue s q block value =
    ((leaf : List Entry) × NodeAt s block true leaf × (value ≡ value_of leaf q))
    ⊎ ((children : List Entry) × NodeAt s block false children × IsTrue (list_all (λ (e : Entry). nat_lt q e.0) children) × (value ≡ None))

-- the value of a chunk by any blocks: none of no root, else that at the end of its way of nine links at most, each block
-- of which is a node
abbrev pub ReadsValue : Shelf → Option ℕ → ℕ → Option ℕ → Type 0
ReadsValue s None q value = value ≡ None
ReadsValue s (Some at) q value = (links : ℕ) × (links ≤ 9) × (block : ℕ) × WayFor s false q links at block × HasValue s q block value

-- what a search answers by the entry at the end of its way, else by the first one of the sibling nearest to the end
abbrev pub GoesOnIn : Shelf → Bool → Option Entry → Option ℕ → Option Entry → Type 0
GoesOnIn s up (Some e) last entry = entry ≡ Some e
GoesOnIn s up None None entry = entry ≡ None
GoesOnIn s up None (Some at) entry = Reaches s true up (edge up) at entry

-- the nearest entry by any blocks: none of no root, else that at the end of the chunk's way or where the search goes on,
-- each block on both ways being a node
abbrev pub ReadsNext : Shelf → Bool → Bool → Option ℕ → ℕ → Option Entry → Type 0
ReadsNext s with up None q entry = entry ≡ None
ReadsNext s with up (Some at) q entry = (first : Option Entry) × (last : Option ℕ) × ReachesBeside s with up q at first last × GoesOnIn s up first last entry
