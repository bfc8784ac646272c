-- What is read at a place of a page, whatever was written there.
use Rattle.std.specs.Prelude.{◌≡◌, ℕ, zero, suc, ◌+◌, ◌-◌, ◌*◌, ◌<◌, ◌≤◌, Bool, List, [], ◌∷◌, take, drop, replicate, slice_index}
use Rattle.std.specs.Int.{w64, from_be_bytes}
use Rattle.node_page.specs.Nodes.{Entry, node_head}
use Rattle.node_page.specs.declared.page.Page.{Page}

-- each is a byte
pub record AreBytes (bytes : List ℕ) : Type 0 where
  pub each : (i : ℕ) → slice_index bytes i < 256

-- the number in the first 8 bytes
unfoldable pub long_in : List ℕ → ℕ
long_in bytes = from_be_bytes w64 (take 8 bytes)

-- so many parts, each of this size
unfoldable pub parts_in : {A : Type 0} → (List ℕ → A) → ℕ → ℕ → List ℕ → List A
parts_in read size zero bytes = []
parts_in read size (suc more) bytes = read bytes ∷ parts_in read size more (drop size bytes)

abbrev pub entry_in : List ℕ → Entry
entry_in bytes = (long_in bytes, long_in (drop 8 bytes))

-- so many entries behind the head
abbrev pub entries_in : ℕ → List ℕ → List Entry
entries_in count bytes = parts_in entry_in 16 count (drop 16 bytes)

-- nothing but zeros from a place to the end of a page
abbrev pub IsZeroFrom : ℕ → List ℕ → Type 0
IsZeroFrom at bytes = drop at bytes ≡ replicate (4064 - at) 0

-- a page begins with the head of a node, and has its length
pub record HasHead (page : Page) (leaf : Bool) (count : ℕ) : Type 0 where
  pub some : 1 ≤ count
  pub most : count ≤ 253
  pub len : page.len ≡ 16 + 16 * count
  pub bytes : take 16 page.bytes ≡ node_head leaf count
