-- The last header of a file behind which record blocks are put.
use Rattle.std.proofs.Common.{◌≡◌, ℕ, zero, suc, ◌+◌, ◌<◌, ◌≤◌, Bool, true, false, cond, [], ◌∷◌, ◌++◌, length, Option, Some, None, refl, ap, ◌∙◌, arith, length-append}
use Rattle.std.specs.Prelude.{IsTrue, ◌==◌, ◌&&◌, if◌then◌else◌}
use Rattle.std.specs.List.{list_all}
use Rattle.std.specs.Option.{option_map_or}
use Rattle.std.proofs.Math.ListN.{get_or-append}
use Rattle.std.proofs.lemmas.List.{get_or-append-add}
use Rattle.std.proofs.lemmas.Bool.{false≢true, eqb-true}
use Rattle.std.proofs.lemmas.Option.{same_Some, none-some}
use Rattle.forest_model.specs.Blocks.{File, Block, block_at, header_below, last_header, is_header, is_records, kind_of, wal_from}
use Rattle.model_laws.specs.Laws.{RecordsKeepHeader}

-- ---- blocks before and behind a file's end

block_before : (file more : File) (at : ℕ) → at < length file → block_at (file ++ more) at ≡ block_at file at
block_before file more at below = get_or-append file more [] at below

block_behind : (file more : File) (at : ℕ) → block_at (file ++ more) (at + length file) ≡ block_at more at
block_behind file more at = ap (block_at (file ++ more)) (let e : at + length file ≡ length file + at = omega arith in e) ∙ get_or-append-add file more at []

one_below : (file : File) (n : ℕ) → header_below file (suc n) ≡ (if is_header (block_at file n) then Some n else header_below file n)
unfolding header_below
one_below file n = refl

below_before : (file more : File) (n : ℕ) → n ≤ length file → header_below (file ++ more) n ≡ header_below file n
unfolding header_below
below_before file more zero fits = refl
below_before file more (suc n) fits =
    ap (λ (b : Block). cond (is_header b) (Some n) (header_below (file ++ more) n)) (block_before file more n (omega (arith, fits)))
    ∙ ap (λ o. cond (is_header (block_at file n)) (Some n) o) (below_before file more n (omega (arith, fits)))

-- a header is below the place up to which it is looked for
header_is_below : (file : File) (n at : ℕ) → header_below file n ≡ Some at → at < n
unfolding header_below
header_is_below file zero at e = absurd (none-some at e)
header_is_below file (suc n) at e = by (is_header (block_at file n)) (header_is_below file n at) e where
  by : (b : Bool) → (header_below file n ≡ Some at → at < n) → cond b (Some n) (header_below file n) ≡ Some at → at < suc n
  by true later f = omega (arith, same_Some n at f)
  by false later f = omega (arith, later f)

-- ---- record blocks

both : (a b : Bool) → IsTrue (a && b) → IsTrue a × IsTrue b
both true b t = (refl, t)
both false b t = absurd (false≢true t)

-- none of them is a header
no_header : (more : File) (at : ℕ) → IsTrue (list_all is_records more) → is_header (block_at more at) ≡ false
no_header [] at all = refl
no_header (b ∷ more) zero all = ap (λ k. k == 4) (eqb-true (kind_of b) 1 (both (is_records b) (list_all is_records more) all).0)
no_header (b ∷ more) (suc at) all = no_header more at (both (is_records b) (list_all is_records more) all).1

below_behind : (file more : File) (n m : ℕ) → IsTrue (list_all is_records more) → m ≡ n + length file → header_below (file ++ more) m ≡ header_below (file ++ more) (length file)
below_behind file more zero m all is = ap (header_below (file ++ more)) (let e : m ≡ length file = omega (arith, is) in e)
below_behind file more (suc n) m all is =
    let k = n + length file in
    let e : m ≡ suc k = omega (arith, is) in
    ap (header_below (file ++ more)) e ∙ one_below (file ++ more) k
    ∙ ap (λ (b : Bool). cond b (Some k) (header_below (file ++ more) k)) (ap is_header (block_behind file more n) ∙ no_header more n all)
    ∙ below_behind file more n k all refl

last_kept : (file more : File) → IsTrue (list_all is_records more) → last_header (file ++ more) ≡ last_header file
last_kept file more all =
    below_behind file more (length more) (length (file ++ more)) all (omega (arith, length-append file more)) ∙ below_before file more (length file) (omega arith)

same_from : (file more : File) (o : Option ℕ) → last_header file ≡ o → option_map_or (λ at. wal_from (block_at (file ++ more) at)) o 0 ≡ option_map_or (λ at. wal_from (block_at file at)) o 0
same_from file more None e = refl
same_from file more (Some at) e = ap wal_from (block_before file more at (header_is_below file (length file) at e))

pub records_keep : RecordsKeepHeader
records_keep file more all =
    let kept = last_kept file more all in
    (kept, ap (λ o. option_map_or (λ at. wal_from (block_at (file ++ more) at)) o 0) kept ∙ same_from file more (last_header file) refl)
