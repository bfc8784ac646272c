-- The header that the links lead to is the one that is looked for, and the blocks below it are taken one by one.
use Rattle.std.proofs.Common.{◌≡◌, ℕ, zero, suc, ◌+◌, ◌-◌, ◌<◌, ◌≤◌, false, cond, [], ◌∷◌, ◌++◌, length, take, drop, filter, get_or, Some, inl, inr, refl, sym, ap, ◌∙◌, arith}
use Rattle.std.specs.Prelude.{◌==◌, ◌&&◌}
use Rattle.std.specs.Option.{option_map_or}
use Rattle.std.proofs.lemmas.Bool.{cases_lt, le-leb, lt-leb, eq-eqb, ne_eqb}
use Rattle.std.proofs.lemmas.List.{append-nil, get_or-drop, length-drop}
use Rattle.std.proofs.lemmas.List.Elements.{filter_more}
use Rattle.forest_model.specs.Blocks.{File, Block, block_at, header_below, last_header, header_of, header_numbered, record_blocks, blocks_of_commit, is_records, kind_of, commit_number, previous_link, wal_from}
use Rattle.model_laws.specs.Copies.{IsLastHeader, LeadsTo, records_in, CopiesOf}

-- ---- the last header

below_it : (file : File) (at n : ℕ) → IsLastHeader file at → at < n → n ≤ length file → header_below file n ≡ Some at
unfolding header_below
below_it file at zero h below fits = absurd (omega (arith, below))
below_it file at (suc k) h below fits =
    elim (cases_lt at k) [
      | inl before ↦
          ap (λ b. cond b (Some k) (header_below file k)) (ne_eqb (kind_of (block_at file k)) 4 (h.last k before (omega (arith, fits)))) ∙ below_it file at k h before (omega (arith, fits))
      | inr reached ↦
          let is : k ≡ at = omega (arith, below, reached) in
          ap (λ b. cond b (Some k) (header_below file k)) (eq-eqb (kind_of (block_at file k)) 4 (ap (λ n. kind_of (block_at file n)) is ∙ h.header)) ∙ ap (λ n. Some n) is
    ]

-- ---- along the links

-- the links that lead somewhere are no more than the blocks before
few_links : (file : File) (number links from at : ℕ) → LeadsTo file number links from at → links ≤ from
few_links file number zero from at h = omega arith
few_links file number (suc links) from at h =
    let next = h.1.0 in
    omega (arith, few_links file number links next at h.1.3, h.1.2)

stays : (file : File) (number n from : ℕ) → commit_number (block_at file from) ≡ number → header_of file number (suc n) (Some from) ≡ Some from
unfolding header_of
stays file number n from is = rw (eq-eqb (commit_number (block_at file from)) number is) refl

goes_on : (file : File) (number n from next : ℕ) → (commit_number (block_at file from) ≡ number → ⊥) → previous_link (block_at file from) ≡ next + 1
    → header_of file number (suc n) (Some from) ≡ header_of file number n (Some next)
unfolding header_of
goes_on file number n from next other link =
    let some : (next + 1 == 0) ≡ false = ne_eqb (next + 1) 0 (λ e. omega (arith, e)) in
    let back : next + 1 - 1 ≡ next = omega arith in
    rw (ne_eqb (commit_number (block_at file from)) number other, link, some, back) refl

leads : (file : File) (number links n from at : ℕ) → links < n → LeadsTo file number links from at → header_of file number n (Some from) ≡ Some at
leads file number links zero from at few h = absurd (omega (arith, few))
leads file number zero (suc n) from at few h =
    stays file number n from (ap (λ k. commit_number (block_at file k)) h.0 ∙ h.1) ∙ ap (λ k. Some k) h.0
leads file number (suc links) (suc n) from at few h =
    goes_on file number n from h.1.0 h.0 h.1.1 ∙ leads file number links n h.1.0 at (omega (arith, few)) h.1.3

-- ---- the blocks below it

listed : (file : File) (from to : ℕ) → to ≤ length file → record_blocks file from to ≡ records_in file from to
listed file from zero fits = ap (λ n. filter is_records (take n (drop from file))) (let e : 0 - from ≡ 0 = omega arith in e)
listed file from (suc k) fits =
    let have : ℕ → File = λ n. filter is_records (take n (drop from file)) in
    let before : File = records_in file from k in
    let later : have (k - from) ≡ before = listed file from k (omega (arith, fits)) in
    elim (cases_lt k from) [
      | inl below ↦
          let front : suc k - from ≡ k - from = omega (arith, below) in
          ap have front ∙ later ∙ sym (append-nil before)
          ∙ sym (ap (λ b. before ++ cond (b && is_records (block_at file k)) (block_at file k ∷ []) []) (lt-leb from k below))
      | inr at_least ↦
          let i : ℕ = k - from in
          let one : suc k - from ≡ i + 1 = omega (arith, at_least) in
          let within : i < length (drop from file) = omega (arith, length-drop from file, fits, at_least) in
          let place : from + i ≡ k = omega (arith, at_least) in
          let block : get_or (drop from file) i [] ≡ block_at file k = get_or-drop from file i [] ∙ ap (block_at file) place in
          ap have one ∙ filter_more is_records (drop from file) i [] within
          ∙ ap (λ (l : File). l ++ cond (is_records (get_or (drop from file) i [])) (get_or (drop from file) i [] ∷ []) []) later
          ∙ ap (λ (b : Block). before ++ cond (is_records b) (b ∷ []) []) block
          ∙ sym (ap (λ b. before ++ cond (b && is_records (block_at file k)) (block_at file k ∷ []) []) (le-leb from k at_least))
    ]

-- ---- what is copied

reaches : (file : File) (number links from at : ℕ) → LeadsTo file number links from at → at ≤ from
reaches file number zero from at h = omega (arith, h.0)
reaches file number (suc links) from at h = omega (arith, reaches file number links h.1.0 at h.1.3, h.1.2)

pub copies_of : CopiesOf
copies_of file number last links at h leads_to =
    let first : last_header file ≡ Some last = below_it file last (length file) h h.within (omega arith) in
    let few : links < length file = omega (arith, few_links file number links last at leads_to, h.within) in
    let found : header_numbered file number ≡ Some at = ap (header_of file number (length file)) first ∙ leads file number links (length file) last at few leads_to in
    let copied : blocks_of_commit file number ≡ records_in file (wal_from (block_at file at)) at =
    ap (λ o. option_map_or (λ n. record_blocks file (wal_from (block_at file n)) n) o []) found
    ∙ listed file (wal_from (block_at file at)) at (omega (arith, reaches file number links last at leads_to, h.within)) in
    (copied, ap length copied)
