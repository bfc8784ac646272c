-- Stems: the root of a B+-tree, and the chunks that the way to it skips.
use Rattle.std.specs.Prelude.{ℕ, ◌^◌, ◌<◌, ◌≤◌, Bool, List, ◌++◌, length, nat_lt, IsTrue}
use Rattle.std.specs.List.{list_all, flat_map}
use Rattle.node_page.specs.Nodes.{long}
use Rattle.node_page.specs.Pages.{IsPage}
use Rattle.node_page.specs.declared.page.Page.{Page}

-- the root's block, the count of skipped chunks, and these
abbrev pub stem_bytes : ℕ → List ℕ → List ℕ
stem_bytes root skipped = long root ++ long (length skipped) ++ flat_map long skipped

abbrev pub is_long : ℕ → Bool
is_long n = nat_lt n (2 ^ 64)

-- a page is the stem of this root with these skipped chunks, at most 504
pub record IsStem (page : Page) (root : ℕ) (skipped : List ℕ) : Type 0 where
  pub most : length skipped ≤ 504
  pub small : root < 2 ^ 64
  pub fit : IsTrue (list_all is_long skipped)
  pub bytes : IsPage (stem_bytes root skipped) page
