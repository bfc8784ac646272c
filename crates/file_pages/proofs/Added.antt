-- A block that is added behind the first ones of a file.
use Rattle.std.proofs.Common.{◌≡◌, ◌⊎◌, ℕ, ◌+◌, ◌-◌, ◌≤◌, List, [], ◌∷◌, ◌++◌, length, take, replicate, refl, sym, ap, ap₂, ◌∙◌, subst, inr, arith, length-append, length-take-le, take_all}
use Rattle.std.specs.Prelude.{Bool, IsTrue, Some, slice_get}
use Rattle.std.proofs.lemmas.List.{take_at}
use Rattle.block_host.specs.Disk.{risen}
use Rattle.block_host.specs.Sealed.{IsSealed}
use Rattle.block_host.specs.declared.block.Block.{Block}
use Rattle.doc_stream.specs.OpenBlock.{OpenBlock}
use Rattle.node_page.specs.Pages.{IsPage}
use Rattle.node_page.specs.declared.page.Page.{Page}
use Rattle.forest_model.specs.declared.refusal.Refusal.TheVariants as Refusal
use Rattle.btree_cow.specs.Causes.{AddFails}
use Rattle.btree_cow.specs.Shelf.{Stored, Adds, Later, SealsPage, stored_in}
use Rattle.file_pages.specs.Files.{told, host_shelf}
use Rattle.file_pages.proofs.Fronts.{risen_first}
use Rattle.file_pages.proofs.Read.{told_is}

-- the bytes in use of a page are its payload
payload_of : (payload : List ℕ) (page : Page) → IsPage payload page → take page.len page.bytes ≡ payload
payload_of payload page is =
    ap (λ (n : ℕ). take n page.bytes) is.len ∙ ap (λ (b : List ℕ). take (length payload) b) is.bytes
    ∙ take_at payload (replicate (4064 - length payload) 0) (length payload) refl

got_last : (xs : List Block) (b : Block) → slice_get (xs ++ b ∷ []) (length xs) ≡ Some b
got_last [] b = refl
got_last (x ∷ xs) b = got_last xs b

abbrev pub Stays : Type 0
Stays = (file at : ℕ) (content more : List Block) (stored : Stored) → stored_in file content at ≡ Some stored → stored_in file (content ++ more) at ≡ Some stored

abbrev pub Means : Type 0
Means = (file at kind : ℕ) (content : List Block) (page : Page) (block : Block) → slice_get content at ≡ Some block → SealsPage file at kind page block
    → stored_in file content at ≡ Some (record { kind = kind; page = page })

later : (lender : ℕ × ℕ) (file : ℕ) (front seen : List Block) (tail : OpenBlock) (used most max kind : ℕ) (block : Block) (payload : List ℕ) → Stays → (kind ≡ 2) ⊎ (kind ≡ 3)
    → IsSealed file (length front) kind payload block
    → Later (host_shelf lender file front seen tail used most max) (host_shelf lender file (front ++ block ∷ []) seen tail (used + 1) most max)
later lender file front seen tail used most max kind block payload stays is sealed = record {
  lender = refl;
  file = refl;
  content = record { more = block ∷ []; behind = refl; nodes = (kind, payload, is, sealed, tt) };
  blocks = λ at stored h. stays file at front (block ∷ []) stored h;
  seen = refl;
  tail = refl;
  used = omega arith;
  most = refl;
  max = refl;
}

adds : (lender : ℕ × ℕ) (file : ℕ) (front seen : List Block) (tail : OpenBlock) (most max kind : ℕ) (page : Page) (block : Block) (payload : List ℕ) → Stays → Means → (kind ≡ 2) ⊎ (kind ≡ 3)
    → IsPage payload page → IsSealed file (length front) kind (take page.len page.bytes) block
    → Adds kind page (length front) (host_shelf lender file front seen tail (length front) most max) (host_shelf lender file (front ++ block ∷ []) seen tail (length front + 1) most max)
adds lender file front seen tail most max kind page block payload stays means is paged sealed' =
    let sealed : IsSealed file (length front) kind payload block =
    subst (λ (p : List ℕ). IsSealed file (length front) kind p block) (payload_of payload page paged) sealed' in
    let seals : SealsPage file (length front) kind page block = record { payload = payload; paged = paged; sealed = sealed } in
    record {
      later = later lender file front seen tail (length front) most max kind block payload stays is sealed;
      at_end = refl;
      one_more = refl;
      there = means file (length front) kind (front ++ block ∷ []) page block (got_last front block) seals;
      place = refl;
      block = block;
      behind = refl;
      seals = seals;
    }

-- the same, as the code has it
pub adds_block : (lender again : ℕ × ℕ) (file : ℕ) (t : Bool) (old new seen : List Block) (tail : OpenBlock) (at most max kind : ℕ) (page : Page) (block : Block) → Stays → Means → (kind ≡ 2) ⊎ (kind ≡ 3)
    → again ≡ lender → (payload : List ℕ) × IsPage payload page → IsTrue t → at ≤ length old → IsSealed file at kind (take page.len page.bytes) block → new ≡ take at old ++ block ∷ []
    → Adds kind page at (host_shelf lender file (told t (take at old)) seen tail at most max) (host_shelf again file (told t (take (at + 1) new)) seen tail (at + 1) most max)
adds_block lender again file t old new seen tail at most max kind page block stays means is named paged tells within sealed added =
    let long : length (take at old) ≡ at = length-take-le at old within in
    let all : length new ≡ at + 1 = ap (λ (b : List Block). length b) added ∙ length-append (take at old) (block ∷ []) ∙ ap (λ (n : ℕ). n + 1) long in
    let whole : take (at + 1) new ≡ take at old ++ block ∷ [] = take_all (at + 1) new (omega (arith, all)) ∙ added in
    let sealed' : IsSealed file (length (take at old)) kind (take page.len page.bytes) block =
    subst (λ (n : ℕ). IsSealed file n kind (take page.len page.bytes) block) (sym long) sealed in
    let one : Adds kind page (length (take at old)) (host_shelf lender file (take at old) seen tail (length (take at old)) most max)
    (host_shelf lender file (take at old ++ block ∷ []) seen tail (length (take at old) + 1) most max) =
    adds lender file (take at old) seen tail most max kind page block paged.0 stays means is paged.1 sealed' in
    subst (λ (l : ℕ × ℕ). Adds kind page at (host_shelf lender file (told t (take at old)) seen tail at most max) (host_shelf l file (told t (take (at + 1) new)) seen tail (at + 1) most max)) (sym named)
    (subst (λ (c : List Block). Adds kind page at (host_shelf lender file (told t (take at old)) seen tail at most max) (host_shelf lender file c seen tail (at + 1) most max)) (sym (told_is t (take (at + 1) new) tells ∙ whole))
    (subst (λ (c : List Block). Adds kind page at (host_shelf lender file c seen tail at most max) (host_shelf lender file (take at old ++ block ∷ []) seen tail (at + 1) most max)) (sym (told_is t (take at old) tells))
    (subst (λ (n : ℕ). Adds kind page n (host_shelf lender file (take at old) seen tail n most max) (host_shelf lender file (take at old ++ block ∷ []) seen tail (n + 1) most max)) long one)))

-- a host that failed, whose file has its first blocks as before
pub refused_by_host : (lender again : ℕ × ℕ) (file : ℕ) (a b seen : List Block) (tail : OpenBlock) (used most max before after others : ℕ) → again ≡ lender → b ≡ a → risen before ≤ after
    → AddFails (host_shelf lender file a seen tail used most max) (host_shelf again file b seen tail used most max) (before + others) (after + others) Refusal.DiskFault
refused_by_host lender again file a b seen tail used most max before after others named same rose =
    let still : host_shelf again file b seen tail used most max ≡ host_shelf lender file a seen tail used most max =
    ap₂ (λ (l : ℕ × ℕ) (c : List Block). host_shelf l file c seen tail used most max) named same in
    (inr (refl, risen_first before after others rose), still)
