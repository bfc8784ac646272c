-- What a page is.
use Rattle.std.specs.Prelude.{◌≡◌, ◌-◌, ◌≤◌, ℕ, List, ◌++◌, length, replicate}
use Rattle.node_page.specs.declared.page.Page.{Page}

-- the page of a payload: its bytes, zeros behind them, and its length
pub record IsPage (payload : List ℕ) (page : Page) : Type 0 where
  pub fits : length payload ≤ 4064
  pub len : page.len ≡ length payload
  pub bytes : page.bytes ≡ payload ++ replicate (4064 - length payload) 0
