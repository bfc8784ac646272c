-- What a file's blocks mean, and that they go on to mean it.
use Rattle.std.proofs.Common.{◌≡◌, ℕ, zero, suc, ◌≤◌, List, [], ◌∷◌, ◌++◌, length, refl, sym, ap, ◌∙◌, subst}
use Rattle.std.specs.Prelude.{Option, Some, None, slice_get}
use Rattle.std.specs.Option.{option_map, option_and_then}
use Rattle.std.proofs.lemmas.Option.{none-some, same_Some}
use Rattle.block_host.specs.Found.{found_in}
use Rattle.block_host.specs.Sealed.{IsSealed}
use Rattle.block_host.specs.declared.block.Block.{Block}
use Rattle.node_page.specs.Found.{page_of}
use Rattle.node_page.specs.Pages.{IsPage}
use Rattle.node_page.specs.declared.page.Page.{Page}
use Rattle.btree_cow.specs.Shelf.{Shelf, Stored, GoesByContent, SealsPage, stored_of, stored_in}

abbrev meaning : ℕ → ℕ → Option Block → Option Stored
meaning file at block = option_map stored_of (option_and_then (found_in file at) block)

pub stored_of_sealed : (sealed_found : (revision at kind : ℕ) (payload : List ℕ) (b : Block) → IsSealed revision at kind payload b → found_in revision at b ≡ Some (kind, payload))
    → (one : (payload : List ℕ) (page : Page) → IsPage payload page → page ≡ page_of payload)
    → (file at kind : ℕ) (content : List Block) (page : Page) (block : Block) → slice_get content at ≡ Some block → SealsPage file at kind page block
    → stored_in file content at ≡ Some (record { kind = kind; page = page })
stored_of_sealed sealed_found one file at kind content page block here seals =
    ap (meaning file at) here
    ∙ ap (option_map stored_of) (sealed_found file at kind seals.payload block seals.sealed)
    ∙ ap (λ (p : Page). Some (record { kind = kind; page = p })) (sym (one seals.payload page seals.paged))

-- what is found in a block that has a meaning
found_there : (file at : ℕ) (block : Option Block) (stored : Stored) → meaning file at block ≡ Some stored
    → (b : Block) × (found : ℕ × List ℕ) × (block ≡ Some b) × (found_in file at b ≡ Some found) × (stored_of found ≡ stored)
found_there file at None stored is = absurd (none-some stored is)
found_there file at (Some b) stored is = found_so (found_in file at b) refl is
  where
    found_so : (f : Option (ℕ × List ℕ)) → found_in file at b ≡ f → option_map stored_of f ≡ Some stored
        → (b' : Block) × (found : ℕ × List ℕ) × (Some b ≡ Some b') × (found_in file at b' ≡ Some found) × (stored_of found ≡ stored)
    found_so None here h = absurd (none-some stored h)
    found_so (Some found) here h = (b, found, refl, here, same_Some (stored_of found) stored h)

pub sealed_of_stored : (found_sealed : (revision at kind : ℕ) (payload : List ℕ) (b : Block) → found_in revision at b ≡ Some (kind, payload) → IsSealed revision at kind payload b)
    → (page_is : (payload : List ℕ) → length payload ≤ 4064 → IsPage payload (page_of payload))
    → (file at kind : ℕ) (content : List Block) (page : Page) → stored_in file content at ≡ Some (record { kind = kind; page = page })
    → (block : Block) × (slice_get content at ≡ Some block) × SealsPage file at kind page block
sealed_of_stored found_sealed page_is file at kind content page is =
    let f = found_there file at (slice_get content at) (record { kind = kind; page = page }) is in
    let sealed = found_sealed file at f.1.0 f.1.1 f.0 f.3 in
    let paged : IsPage f.1.1 (page_of f.1.1) = page_is f.1.1 sealed.fits in (
      f.0,
      f.2,
      record {
        payload = f.1.1;
        paged = subst (λ (p : Page). IsPage f.1.1 p) (ap (λ (s : Stored). s.page) f.4) paged;
        sealed = subst (λ (k : ℕ). IsSealed file at k f.1.1 f.0) (ap (λ (s : Stored). s.kind) f.4) sealed;
      },
    )

got_still : (xs ys : List Block) (n : ℕ) (b : Block) → slice_get xs n ≡ Some b → slice_get (xs ++ ys) n ≡ Some b
got_still [] ys n b is = absurd (none-some b is)
got_still (x ∷ xs) ys zero b is = is
got_still (x ∷ xs) ys (suc n) b is = got_still xs ys n b is

pub stored_still : (file at : ℕ) (content more : List Block) (stored : Stored) → stored_in file content at ≡ Some stored → stored_in file (content ++ more) at ≡ Some stored
stored_still file at content more stored is =
    let f = found_there file at (slice_get content at) stored is in
    ap (meaning file at) (got_still content more at f.0 f.2 ∙ sym f.2) ∙ is

-- the meaning of a shelf's blocks goes on where blocks are added
pub blocks_still : (s other : Shelf) (more : List Block) → GoesByContent s → GoesByContent other → other.file ≡ s.file → other.content ≡ s.content ++ more
    → (at : ℕ) (stored : Stored) → s.blocks at ≡ Some stored → other.blocks at ≡ Some stored
blocks_still s other more goes goes' same behind at stored is =
    goes' at
    ∙ ap (λ (f : ℕ). stored_in f other.content at) same
    ∙ ap (λ (c : List Block). stored_in s.file c at) behind
    ∙ stored_still s.file at s.content more stored (sym (goes at) ∙ is)
