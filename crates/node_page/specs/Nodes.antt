-- Nodes of B+-trees: a kind and a count, and then the entries, 16 bytes each.
use Rattle.std.specs.Prelude.{ℕ, ◌^◌, ◌≤◌, Bool, true, ◌&&◌, List, [], ◌∷◌, ◌++◌, length, replicate, nat_lt, IsTrue, if◌then◌else◌}
use Rattle.std.specs.List.{list_all, flat_map}
use Rattle.std.specs.Int.{w16, w64, to_be_bytes}
use Rattle.node_page.specs.Pages.{IsPage}
use Rattle.node_page.specs.declared.page.Page.{Page}

-- a number in 8 bytes
unfoldable pub long : ℕ → List ℕ
long n = to_be_bytes w64 n

-- a chunk and its value
abbrev pub Entry : Type 0
Entry = ℕ × ℕ

abbrev pub entry_bytes : Entry → List ℕ
entry_bytes e = long e.0 ++ long e.1

-- a head of 16 bytes: 1 for a leaf and 2 for an inner node, a zero, the count in 2 bytes, and 12 zeros
abbrev pub node_head : Bool → ℕ → List ℕ
node_head leaf count = ((if leaf then 1 else 2) ∷ 0 ∷ []) ++ to_be_bytes w16 count ++ replicate 12 0

abbrev pub node_bytes : Bool → List Entry → List ℕ
node_bytes leaf entries = node_head leaf (length entries) ++ flat_map entry_bytes entries

-- numbers of 8 bytes
abbrev pub fits : Entry → Bool
fits e = nat_lt e.0 (2 ^ 64) && nat_lt e.1 (2 ^ 64)

-- chunks strictly rise
abbrev pub rises : List Entry → Bool
rises [] = true
rises (e ∷ later) = list_all (λ other. nat_lt e.0 other.0) later && rises later

-- a page is the node of these entries, 1 to 253
pub record IsNode (page : Page) (leaf : Bool) (entries : List Entry) : Type 0 where
  pub some : 1 ≤ length entries
  pub most : length entries ≤ 253
  pub rise : IsTrue (rises entries)
  pub fit : IsTrue (list_all fits entries)
  pub bytes : IsPage (node_bytes leaf entries) page
