-- A page that is read.
use Rattle.std.proofs.Common.{◌≡◌, ℕ, List, sym, ap, ◌∙◌, subst}
use Rattle.std.specs.Prelude.{Some, None, slice_get}
use Rattle.std.proofs.lemmas.Option.{none-some, same_Some}
use Rattle.block_host.specs.Found.{found_in}
use Rattle.block_host.specs.Sealed.{IsSealed, IsTorn}
use Rattle.block_host.specs.declared.block.Block.{Block}
use Rattle.node_page.specs.declared.page.Page.{Page}
use Rattle.btree_cow.specs.Shelf.{SealsPage, stored_in}

abbrev pub WasSealed : Type 0
WasSealed = (file at kind : ℕ) (content : List Block) (page : Page) → stored_in file content at ≡ Some (record { kind = kind; page = page })
    → (block : Block) × (slice_get content at ≡ Some block) × SealsPage file at kind page block

abbrev pub IsFound : Type 0
IsFound = (revision at kind : ℕ) (payload : List ℕ) (block : Block) → IsSealed revision at kind payload block → found_in revision at block ≡ Some (kind, payload)

abbrev pub NoPage : ℕ → List Block → ℕ → ℕ → Type 0
NoPage file content at kind = (page : Page) → stored_in file content at ≡ Some (record { kind = kind; page = page }) → ⊥

pub past_end : (file at kind : ℕ) (content : List Block) → WasSealed → slice_get content at ≡ None → NoPage file content at kind
past_end file at kind content was none page is =
    let s = was file at kind content page is in absurd (none-some s.0 (sym none ∙ s.1))

same_block : (at : ℕ) (content : List Block) (b c : Block) → slice_get content at ≡ Some b → slice_get content at ≡ Some c → c ≡ b
same_block at content b c is is' = same_Some c b (sym is' ∙ is)

pub not_sealed : (file at kind : ℕ) (content : List Block) (block : Block) → WasSealed → slice_get content at ≡ Some block → IsTorn file at block → NoPage file content at kind
not_sealed file at kind content block was here torn page is =
    let s = was file at kind content page is in
    torn kind s.2.payload (subst (λ (b : Block). IsSealed file at kind s.2.payload b) (same_block at content block s.0 here s.1) s.2.sealed)

pub other_kind : (file at kind there : ℕ) (content : List Block) (block : Block) (payload : List ℕ) → WasSealed → IsFound → slice_get content at ≡ Some block → IsSealed file at there payload block → (there ≡ kind → ⊥)
    → NoPage file content at kind
other_kind file at kind there content block payload was found here sealed other page is =
    let s = was file at kind content page is in
    let again = subst (λ (b : Block). IsSealed file at kind s.2.payload b) (same_block at content block s.0 here s.1) s.2.sealed in
    let same = same_Some (there, payload) (kind, s.2.payload) (sym (found file at there payload block sealed) ∙ found file at kind s.2.payload block again) in
    other (ap (λ (f : ℕ × List ℕ). f.0) same)
