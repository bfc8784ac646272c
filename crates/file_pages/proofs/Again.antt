-- What a lender knows of a file again after nodes were added to it.
use Rattle.std.proofs.Common.{◌≡◌, ℕ, ◌+◌, ◌≤◌, List, ◌++◌, length, take, sym, ap, ◌∙◌, subst, subst₂, length-take-le}
use Rattle.std.specs.Prelude.{Bool, IsTrue, Option, Some, Result, Ok, Err, IfOk}
use Rattle.block_host.specs.declared.block.Block.{Block}
use Rattle.doc_stream.specs.OpenBlock.{OpenBlock}
use Rattle.forest_model.specs.declared.refusal.Refusal.{Refusal}
use Rattle.node_page.specs.Nodes.{Entry}
use Rattle.btree_cow.specs.Changes.{SameLimits}
use Rattle.btree_cow.specs.Shelf.{Shelf, Stored, Later, AreNodes}
use Rattle.btree_cow.specs.Trees.{Tree}
use Rattle.file_pages.specs.Files.{told, host_shelf, IsGrown}
use Rattle.file_pages.proofs.Read.{told_is}

pub if_both_ok : {T E : Type 0} (r : Result T E) (P Q R : T → Type 0) → ((v : T) → P v → Q v → R v) → IfOk r P → IfOk r Q → IfOk r R
if_both_ok (Ok v) P Q R on p q = on v p q
if_both_ok (Err e) P Q R on p q = tt

pub by_same : {A : Type 0} (P : A → Type 0) (x y : A) → x ≡ y → P y → P x
by_same P x y same is = subst P (sym same) is

-- the shelf of what was lent, by the names and numbers that it was lent with
pub shelf_again : (P : Shelf → Type 0) (names lender : ℕ × ℕ) (r file : ℕ) (t : Bool) (files : ℕ → List Block) (seen now : List Block) (tail open_ : OpenBlock) (n used most most' max max' : ℕ)
    → lender ≡ names → file ≡ r → now ≡ seen → open_ ≡ tail → used ≡ n → most' ≡ most → max' ≡ max
    → P (host_shelf lender file (told t (take used (files file))) now open_ used most' max') → P (host_shelf names r (told t (take n (files r))) seen tail n most max)
shelf_again P names lender r file t files seen now tail open_ n used most most' max max' l f s o u m x is =
    subst (λ (y : ℕ × ℕ). P (host_shelf y r (told t (take n (files r))) seen tail n most max)) l
    (subst (λ (y : ℕ). P (host_shelf lender y (told t (take n (files y))) seen tail n most max)) f
    (subst (λ (y : List Block). P (host_shelf lender file (told t (take n (files file))) y tail n most max)) s
    (subst (λ (y : OpenBlock). P (host_shelf lender file (told t (take n (files file))) now y n most max)) o
    (subst (λ (y : ℕ). P (host_shelf lender file (told t (take y (files file))) now open_ y most max)) u
    (subst (λ (y : ℕ). P (host_shelf lender file (told t (take used (files file))) now open_ used y max)) m
    (subst (λ (y : ℕ). P (host_shelf lender file (told t (take used (files file))) now open_ used most' y)) x is))))))

pub grown : (t : Bool) (r n upto : ℕ) (before after : List Block) (old new : Shelf) → IsTrue t → n ≤ length before → upto ≤ length after
    → old.content ≡ told t (take n before) → old.file ≡ r → new.content ≡ told t (take upto after) → Later old new → IsGrown r n upto before after
grown t r n upto before after old new tells within within' is file is' later =
    let more : List Block = later.content.more in
    let first : old.content ≡ take n before = is ∙ told_is t (take n before) tells in
    record {
      more = more;
      behind = sym (is' ∙ told_is t (take upto after) tells) ∙ later.content.behind ∙ ap (λ (b : List Block). b ++ more) first;
      nodes = subst₂ (λ (f k : ℕ). AreNodes f k more) file (ap (λ (b : List Block). length b) first ∙ length-take-le n before within) later.content.nodes;
      within = within';
    }

abbrev GoByBlocks : Type 0
GoByBlocks = (ok : ℕ → ℕ → Bool) (s other : Shelf) (root : Option ℕ) (entries : List Entry) → ((at : ℕ) (stored : Stored) → s.blocks at ≡ Some stored → other.blocks at ≡ Some stored)
    → Tree ok s root entries → Tree ok other root entries

-- an insert through pages that were made of a file, told of the file by the names that its lender has for it
pub inserted_again : (names given lender : ℕ × ℕ) (r file : ℕ) (t : Bool) (before : List Block) (files : ℕ → List Block) (seen now : List Block) (tail open_ : OpenBlock) (n used most most' max max' : ℕ)
    (made : Shelf) (ok : ℕ → ℕ → Bool) (root : Option ℕ) (entries after : List Entry) (value : ℕ) (result : Result ℕ Refusal)
    → made ≡ host_shelf given r (told t (take n before)) seen tail n most max
    → SameLimits made (host_shelf lender file (told t (take used (files file))) now open_ used most' max')
    → Later made (host_shelf lender file (told t (take used (files file))) now open_ used most' max')
    → (IsTrue (ok made.used value) → Tree ok made root entries
    → IfOk result (λ at. Tree ok (host_shelf lender file (told t (take used (files file))) now open_ used most' max') (Some at) after))
    → IfOk result (λ at. at + 1 ≡ used) → GoByBlocks
    → IsTrue (ok n value) → Tree ok (host_shelf names r (told t (take n before)) seen tail n most max) root entries
    → IfOk result (λ at. Tree ok (host_shelf names r (told t (take (at + 1) (files r))) seen tail (at + 1) most max) (Some at) after)
inserted_again names given lender r file t before files seen now tail open_ n used most most' max max' made ok root entries after value result is limits later inserted last by_blocks well tree =
    let new : Shelf = host_shelf lender file (told t (take used (files file))) now open_ used most' max' in
    let old : Shelf = host_shelf given r (told t (take n before)) seen tail n most max in
    let limits' : SameLimits old new = subst (λ (s : Shelf). SameLimits s new) is limits in
    let later' : Later old new = subst (λ (s : Shelf). Later s new) is later in
    let there : Tree ok made root entries =
    subst (λ (s : Shelf). Tree ok s root entries) (sym is) (by_blocks ok (host_shelf names r (told t (take n before)) seen tail n most max) old root entries (λ at stored h. h) tree) in
    if_both_ok result (λ at. Tree ok new (Some at) after) (λ at. at + 1 ≡ used) (λ at. Tree ok (host_shelf names r (told t (take (at + 1) (files r))) seen tail (at + 1) most max) (Some at) after)
    (λ at grown_ end. by_blocks ok (host_shelf given r (told t (take (at + 1) (files r))) seen tail (at + 1) most max) (host_shelf names r (told t (take (at + 1) (files r))) seen tail (at + 1) most max) (Some at) after
    (λ b stored h. h)
    (shelf_again (λ (s : Shelf). Tree ok s (Some at) after) given lender r file t files seen now tail open_ (at + 1) used most most' max max'
    limits'.lender limits'.file later'.seen later'.tail (sym end) limits'.most limits'.max grown_))
    (inserted (subst (λ (s : Shelf). IsTrue (ok s.used value)) (sym is) well) there) last
