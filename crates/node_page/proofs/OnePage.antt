-- A payload has one page.
use Rattle.std.proofs.Common.{◌≡◌, ℕ, ◌≤◌, ◌-◌, List, ◌++◌, length, refl, ap, ◌∙◌}
use Rattle.std.specs.Prelude.{replicate}
use Rattle.node_page.specs.Found.{page_of}
use Rattle.node_page.specs.Pages.{IsPage}
use Rattle.node_page.specs.declared.page.Page.{Page}

pub one_page : (payload : List ℕ) (page : Page) → IsPage payload page → page ≡ page_of payload
unfolding page_of
one_page payload page is =
    ap (λ (b : List ℕ). record { bytes = b; len = page.len }) is.bytes
    ∙ ap (λ (n : ℕ). record { bytes = payload ++ replicate (4064 - length payload) 0; len = n }) is.len

pub page_is : (payload : List ℕ) → length payload ≤ 4064 → IsPage payload (page_of payload)
unfolding page_of
page_is payload fits = record { fits = fits; len = refl; bytes = refl }
