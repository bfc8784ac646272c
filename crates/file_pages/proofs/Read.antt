-- A page that is read.
use Rattle.std.proofs.Common.{◌≡◌, ℕ, List, refl, sym, ap, ◌∙◌, subst}
use Rattle.std.specs.Prelude.{Bool, true, false, IsTrue, Some, None, Option, unwrap_or, slice_get}
use Rattle.std.proofs.lemmas.Option.{same_Some}
use Rattle.block_host.specs.Calls.{block_at}
use Rattle.block_host.specs.Disk.{not_told}
use Rattle.block_host.specs.Found.{found_in}
use Rattle.block_host.specs.Sealed.{IsSealed, IsTorn, zero_block}
use Rattle.block_host.specs.declared.block.Block.{Block}
use Rattle.node_page.specs.declared.page.Page.{Page}
use Rattle.btree_cow.specs.Shelf.{SealsPage, stored_in}
use Rattle.file_pages.specs.Files.{told, NoPage}

-- ---- what is told

pub told_same : (t : Bool) (a b : List Block) → (IsTrue t → a ≡ b) → told t a ≡ told t b
told_same true a b same = same refl
told_same false a b same = refl

pub told_is : (t : Bool) (a : List Block) → IsTrue t → told t a ≡ a
told_is true a is = refl
told_is false a is = not_told is

-- ---- blocks

abbrev pub WasSealed : Type 0
WasSealed = (file at kind : ℕ) (content : List Block) (page : Page) → stored_in file content at ≡ Some (record { kind = kind; page = page })
    → (block : Block) × (slice_get content at ≡ Some block) × SealsPage file at kind page block

abbrev pub IsFound : Type 0
IsFound = (revision at kind : ℕ) (payload : List ℕ) (block : Block) → IsSealed revision at kind payload block → found_in revision at block ≡ Some (kind, payload)

-- a block that is there is the one that is read
same_block : (content : List Block) (at : ℕ) (block c : Block) → block ≡ block_at content at → slice_get content at ≡ Some c → c ≡ block
same_block content at block c is there = sym (is ∙ ap (λ (o : Option Block). unwrap_or o zero_block) there)

-- what is read and sealed is there
there_by : (o : Option Block) (block zeros : Block) (file at kind : ℕ) (payload : List ℕ) → block ≡ unwrap_or o zero_block → zeros ≡ zero_block → ((file at : ℕ) → IsTorn file at zeros)
    → IsSealed file at kind payload block → o ≡ Some block
there_by None block zeros file at kind payload is zero torn sealed =
    absurd (torn file at kind payload (subst (λ (b : Block). IsSealed file at kind payload b) (is ∙ sym zero) sealed))
there_by (Some c) block zeros file at kind payload is zero torn sealed = ap (λ (b : Block). Some b) (sym is)

pub is_there : (content : List Block) (block zeros : Block) (file at kind : ℕ) (payload : List ℕ) → block ≡ block_at content at → zeros ≡ zero_block → ((file at : ℕ) → IsTorn file at zeros)
    → IsSealed file at kind payload block → slice_get content at ≡ Some block
is_there content block zeros file at kind payload is zero torn sealed = there_by (slice_get content at) block zeros file at kind payload is zero torn sealed

pub not_sealed : (file at kind : ℕ) (content : List Block) (block : Block) → WasSealed → block ≡ block_at content at → IsTorn file at block → NoPage file content at kind
not_sealed file at kind content block was here torn page is =
    let s = was file at kind content page is in
    torn kind s.2.payload (subst (λ (b : Block). IsSealed file at kind s.2.payload b) (same_block content at block s.0 here s.1) s.2.sealed)

pub other_kind : (file at kind there : ℕ) (content : List Block) (block : Block) (payload : List ℕ) → WasSealed → IsFound → block ≡ block_at content at → IsSealed file at there payload block → (there ≡ kind → ⊥)
    → NoPage file content at kind
other_kind file at kind there content block payload was found here sealed other page is =
    let s = was file at kind content page is in
    let again = subst (λ (b : Block). IsSealed file at kind s.2.payload b) (same_block content at block s.0 here s.1) s.2.sealed in
    let same = same_Some (there, payload) (kind, s.2.payload) (sym (found file at there payload block sealed) ∙ found file at kind s.2.payload block again) in
    other (ap (λ (f : ℕ × List ℕ). f.0) same)
