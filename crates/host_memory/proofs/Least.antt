-- The first file in order that has blocks is the least.
use Rattle.std.proofs.Common.{◌≡◌, ◌<◌, ◌≤◌, ℕ, Bool, true, false, List, [], ◌∷◌, length, refl, sym, ◌∙◌, ap, subst, arith}
use Rattle.std.specs.Prelude.{Option, Some, None, option_map, unwrap_or, nat_lt, ◌&&◌, cond}
use Rattle.std.specs.Ordering.{nat_cmp, MatchOrdering, is_eq}
use Rattle.std.specs.declared.cmp.Ordering.{Ordering}
use Rattle.std.specs.declared.cmp.Ordering.TheVariants.{Less, Equal, Greater}
use Rattle.std.specs.Map.{lookup, keys_of}
use Rattle.std.specs.BTreeMap.{is_at}
use Rattle.std.specs.List.{find, AllByRecursion}
use Rattle.std.specs.List.Sorted.{IsStrictlySortedBy}
use Rattle.std.proofs.lemmas.Cmp.{ranked}
use Rattle.std.proofs.lemmas.Bool.Decides.{nat_tests}
use Rattle.block_host.specs.declared.block.Block.{Block}
use Rattle.block_host.specs.Disk.{Image}
use Rattle.block_host.specs.Calls.{NextFile}
use Rattle.host_memory.specs.Pending.{FileState, no_file, qualifies}

abbrev look : List (ℕ × FileState) → ℕ → Option FileState
look entries file = lookup (is_at (nat_cmp file)) entries

abbrev pub files_of : List (ℕ × FileState) → Image
files_of entries file = (unwrap_or (look entries file) no_file).blocks

same_number : (x y : ℕ) (r : Ordering) → MatchOrdering r (x < y) (x ≡ y) (y < x) → x ≡ y → is_eq r ≡ true
same_number x y Less h is = absurd (omega (arith, h, is))
same_number x y Equal h is = refl
same_number x y Greater h is = absurd (omega (arith, h, is))

other_number : (x y : ℕ) (r : Ordering) → MatchOrdering r (x < y) (x ≡ y) (y < x) → (x ≡ y → ⊥) → is_eq r ≡ false
other_number x y Less h apart = refl
other_number x y Equal h apart = absurd (apart h)
other_number x y Greater h apart = refl

look-here : (entry : ℕ × FileState) (entries : List (ℕ × FileState)) (file : ℕ) → file ≡ entry.0 → look (entry ∷ entries) file ≡ Some entry.1
look-here entry entries file is = ap (λ (b : Bool). cond b (Some entry.1) (look entries file)) (same_number file entry.0 (nat_cmp file entry.0) (ranked file entry.0 (nat_cmp file entry.0) refl) is)

look-other : (entry : ℕ × FileState) (entries : List (ℕ × FileState)) (file : ℕ) → (file ≡ entry.0 → ⊥) → look (entry ∷ entries) file ≡ look entries file
look-other entry entries file apart = ap (λ (b : Bool). cond b (Some entry.1) (look entries file)) (other_number file entry.0 (nat_cmp file entry.0) (ranked file entry.0 (nat_cmp file entry.0) refl) apart)

cmp-less : (x y : ℕ) → nat_cmp x y ≡ Less → x < y
cmp-less x y is = ranked x y Less (sym is)

look-below : (low : ℕ) (entries : List (ℕ × FileState)) (file : ℕ) → AllByRecursion (λ y. nat_cmp low y ≡ Less) (keys_of entries) → file ≤ low → look entries file ≡ None
look-below low [] file all le = refl
look-below low (entry ∷ entries) file all le =
    look-other entry entries file (λ is. omega (arith, cmp-less low entry.0 all.0, is, le)) ∙ look-below low entries file all.1 le

same_files : (after : ℕ) (files other : Image) (next : Option ℕ) → ((file : ℕ) → after < file → other file ≡ files file) → NextFile after files next → NextFile after other next
same_files after files other None same none = λ file above fits. same file above ∙ none file above fits
same_files after files other (Some least) same found =
    (found.0, subst (λ blocks. 1 ≤ length blocks) (sym (same least found.0)) found.1, λ file above below. same file above ∙ found.2 file above below)

no_blocks : (after number : ℕ) (blocks : List Block) → (nat_lt after number && nat_lt 0 (length blocks)) ≡ false → after < number → blocks ≡ []
no_blocks after number [] none above = refl
no_blocks after number (block ∷ blocks) none above = absurd (grind (arith, nat_tests))

is_qualified : (after number length : ℕ) → (nat_lt after number && nat_lt 0 length) ≡ true → (after < number) × (1 ≤ length)
is_qualified after number length is = (grind (arith, nat_tests), grind (arith, nat_tests))

-- an entry that doesn't qualify tells nothing of the files above
same_above : (after : ℕ) (entry : ℕ × FileState) (entries : List (ℕ × FileState)) → AllByRecursion (λ y. nat_cmp entry.0 y ≡ Less) (keys_of entries) → qualifies after entry ≡ false → (file : ℕ) → after < file
    → (r : Ordering) → MatchOrdering r (file < entry.0) (file ≡ entry.0) (entry.0 < file) → files_of (entry ∷ entries) file ≡ files_of entries file
same_above after entry entries all none file above Less h = ap (λ (o : Option FileState). (unwrap_or o no_file).blocks) (look-other entry entries file (λ same. omega (arith, same, h)))
same_above after entry entries all none file above Greater h = ap (λ (o : Option FileState). (unwrap_or o no_file).blocks) (look-other entry entries file (λ same. omega (arith, same, h)))
same_above after entry entries all none file above Equal h =
    ap (λ (o : Option FileState). (unwrap_or o no_file).blocks) (look-here entry entries file h)
    ∙ no_blocks after entry.0 entry.1.blocks none (omega (arith, above, h))
    ∙ sym (ap (λ (o : Option FileState). (unwrap_or o no_file).blocks) (look-below entry.0 entries file all (omega (arith, h))))

least_step : (after : ℕ) (entry : ℕ × FileState) (entries : List (ℕ × FileState)) → AllByRecursion (λ y. nat_cmp entry.0 y ≡ Less) (keys_of entries)
    → NextFile after (files_of entries) (option_map (λ (e : ℕ × FileState). e.0) (find (qualifies after) entries))
    → (b : Bool) → qualifies after entry ≡ b → NextFile after (files_of (entry ∷ entries)) (option_map (λ (e : ℕ × FileState). e.0) (cond b (Some entry) (find (qualifies after) entries)))
least_step after entry entries all rest true is =
    let found = is_qualified after entry.0 (length entry.1.blocks) is in (
      found.0,
      subst (λ (o : Option FileState). 1 ≤ length (unwrap_or o no_file).blocks) (sym (look-here entry entries entry.0 refl)) found.1,
      λ file above below. ap (λ (o : Option FileState). (unwrap_or o no_file).blocks)
          (look-other entry entries file (λ same. omega (arith, same, below)) ∙ look-below entry.0 entries file all (omega (arith, below))),
    )
least_step after entry entries all rest false is =
    same_files after (files_of entries) (files_of (entry ∷ entries)) (option_map (λ (e : ℕ × FileState). e.0) (find (qualifies after) entries))
    (λ file above. same_above after entry entries all is file above (nat_cmp file entry.0) (ranked file entry.0 (nat_cmp file entry.0) refl)) rest

pub first_least : (after : ℕ) (entries : List (ℕ × FileState)) → IsStrictlySortedBy nat_cmp (keys_of entries) → NextFile after (files_of entries) (option_map (λ (entry : ℕ × FileState). entry.0) (find (qualifies after) entries))
unfolding IsStrictlySortedBy
first_least after [] sorted = λ file above fits. refl
first_least after (entry ∷ entries) sorted = least_step after entry entries sorted.0 (first_least after entries sorted.1) (qualifies after entry) refl
