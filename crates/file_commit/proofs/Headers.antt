-- The last header of a file at whose end one stands.
use Rattle.std.proofs.Common.{◌≡◌, ℕ, zero, suc, ◌+◌, ◌<◌, Bool, true, false, cond, [], ◌∷◌, ◌++◌, length, Option, Some, refl, ap, ◌∙◌, arith, length-append}
use Rattle.std.specs.Prelude.{IsTrue, if◌then◌else◌}
use Rattle.std.proofs.lemmas.List.{get_or-append-add}
use Rattle.std.proofs.lemmas.Option.{same_Some, none-some}
use Rattle.forest_model.specs.Blocks.{File, Block, block_at, header_below, last_header, is_header}

-- a header is below the place up to which it is looked for
at_step : (n at : ℕ) (b : Bool) (below : Option ℕ) → (below ≡ Some at → at < n) → cond b (Some n) below ≡ Some at → at < suc n
at_step n at true below later e = omega (arith, same_Some n at e)
at_step n at false below later e = omega (arith, later e)

pub header-below : (file : File) (n at : ℕ) → header_below file n ≡ Some at → at < n
unfolding header_below
header-below file zero at e = absurd (none-some at e)
header-below file (suc n) at e = at_step n at (is_header (block_at file n)) (header_below file n) (header-below file n at) e

one_below : (file : File) (n : ℕ) → header_below file (suc n) ≡ (if is_header (block_at file n) then Some n else header_below file n)
unfolding header_below
one_below file n = refl

-- a header that is put behind a file
pub block-new : (file : File) (header : Block) → block_at (file ++ header ∷ []) (length file) ≡ header
block-new file header =
    ap (block_at (file ++ header ∷ [])) (let e : length file ≡ length file + 0 = omega arith in e) ∙ get_or-append-add file (header ∷ []) 0 []

pub last-new : (file : File) (header : Block) → IsTrue (is_header header) → last_header (file ++ header ∷ []) ≡ Some (length file)
last-new file header is =
    ap (header_below (file ++ header ∷ [])) (let e : length (file ++ header ∷ []) ≡ suc (length file) = omega (arith, length-append file (header ∷ [])) in e)
    ∙ one_below (file ++ header ∷ []) (length file)
    ∙ ap (λ (b : Bool). cond b (Some (length file)) (header_below (file ++ header ∷ []) (length file))) (ap is_header (block-new file header) ∙ is)
