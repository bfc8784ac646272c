-- The one page of a payload.
use Rattle.std.specs.Prelude.{◌-◌, ℕ, List, ◌++◌, length, replicate}
use Rattle.node_page.specs.declared.page.Page.{Page}

-- its bytes, zeros behind them, and its length
unfoldable pub page_of : List ℕ → Page
page_of payload = record { bytes = payload ++ replicate (4064 - length payload) 0; len = length payload }
