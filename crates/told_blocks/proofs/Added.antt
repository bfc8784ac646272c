-- A block that is added.
use Rattle.std.proofs.Common.{◌≡◌, ◌⊎◌, ℕ, ◌-◌, List, [], ◌∷◌, ◌++◌, length, take, replicate, refl, sym, ap, ◌∙◌, subst, arith, length-append}
use Rattle.std.specs.Prelude.{Some, slice_get}
use Rattle.std.proofs.lemmas.List.{take_at}
use Rattle.block_host.specs.Sealed.{IsSealed}
use Rattle.block_host.specs.declared.block.Block.{Block}
use Rattle.node_page.specs.Pages.{IsPage}
use Rattle.node_page.specs.declared.page.Page.{Page}
use Rattle.btree_cow.specs.Shelf.{Stored, Adds, Later, SealsPage, stored_in}
use Rattle.told_blocks.specs.Told.{Told, shelf_of}

-- the bytes in use of a page are its payload
pub payload_of : (payload : List ℕ) (page : Page) → IsPage payload page → take page.len page.bytes ≡ payload
payload_of payload page is =
    ap (λ (n : ℕ). take n page.bytes) is.len ∙ ap (λ (b : List ℕ). take (length payload) b) is.bytes
    ∙ take_at payload (replicate (4064 - length payload) 0) (length payload) refl

got_last : (xs : List Block) (b : Block) → slice_get (xs ++ b ∷ []) (length xs) ≡ Some b
got_last [] b = refl
got_last (x ∷ xs) b = got_last xs b

abbrev pub Stays : Type 0
Stays = (file at : ℕ) (content more : List Block) (stored : Stored) → stored_in file content at ≡ Some stored → stored_in file (content ++ more) at ≡ Some stored

abbrev pub Means : Type 0
Means = (file at kind : ℕ) (content : List Block) (page : Page) (block : Block) → slice_get content at ≡ Some block → SealsPage file at kind page block
    → stored_in file content at ≡ Some (record { kind = kind; page = page })

abbrev pub with_block : Told → Block → Told
with_block t block = record t { content = t.content ++ block ∷ [] }

later : (t : Told) (block : Block) (kind : ℕ) (payload : List ℕ) → Stays → (kind ≡ 2) ⊎ (kind ≡ 3) → IsSealed t.file (length t.content) kind payload block
    → Later (shelf_of t) (shelf_of (with_block t block))
later t block kind payload stays is sealed = record {
  lender = refl;
  file = refl;
  content = record { more = block ∷ []; behind = refl; nodes = (kind, payload, is, sealed, tt) };
  blocks = λ at stored h. stays t.file at t.content (block ∷ []) stored h;
  seen = refl;
  tail = refl;
  used = let long = length-append t.content (block ∷ []) in omega (arith, long);
  most = refl;
  max = refl;
}

pub adds : (t : Told) (block : Block) (kind : ℕ) (page : Page) (payload : List ℕ) → Stays → Means → (kind ≡ 2) ⊎ (kind ≡ 3) → IsPage payload page
    → IsSealed t.file (length t.content) kind (take page.len page.bytes) block → Adds kind page (length t.content) (shelf_of t) (shelf_of (with_block t block))
adds t block kind page payload stays means is paged sealed' =
    let sealed : IsSealed t.file (length t.content) kind payload block =
    subst (λ (p : List ℕ). IsSealed t.file (length t.content) kind p block) (payload_of payload page paged) sealed' in
    let seals : SealsPage t.file (length t.content) kind page block = record { payload = payload; paged = paged; sealed = sealed } in
    record {
      later = later t block kind payload stays is sealed;
      at_end = refl;
      one_more = length-append t.content (block ∷ []);
      there = means t.file (length t.content) kind (t.content ++ block ∷ []) page block (got_last t.content block) seals;
      place = refl;
      block = block;
      behind = refl;
      seals = seals;
    }

-- the same, as the code has it
pub adds_to : (t u : Told) (content : List Block) (block : Block) (kind at : ℕ) (page : Page) → Stays → Means → (kind ≡ 2) ⊎ (kind ≡ 3) → (payload : List ℕ) × IsPage payload page → u ≡ t → at ≡ length u.content
    → IsSealed u.file at kind (take page.len page.bytes) block → content ≡ u.content ++ block ∷ [] → Adds kind page at (shelf_of t) (shelf_of (record u { content = content }))
adds_to t u content block kind at page stays means is paged same place sealed behind =
    let sealed' : IsSealed u.file (length u.content) kind (take page.len page.bytes) block =
    subst (λ (n : ℕ). IsSealed u.file n kind (take page.len page.bytes) block) place sealed in
    let one : Adds kind page (length u.content) (shelf_of u) (shelf_of (with_block u block)) = adds u block kind page paged.0 stays means is paged.1 sealed' in
    subst (λ (s : Told). Adds kind page at (shelf_of s) (shelf_of (record u { content = content }))) same
    (subst (λ (n : ℕ). Adds kind page n (shelf_of u) (shelf_of (record u { content = content }))) (sym place)
    (subst (λ (c : List Block). Adds kind page (length u.content) (shelf_of u) (shelf_of (record u { content = c }))) (sym behind) one))
