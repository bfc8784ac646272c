-- Records and then their header, at each moment.
use Rattle.std.proofs.Common.{zero, suc, ◌≡◌, ◌+◌, ◌-◌, ◌<◌, ◌≤◌, ℕ, List, [], ◌∷◌, ◌++◌, length, take, refl, sym, ◌∙◌, ap, subst, inl, inr, arith, length-append}
use Rattle.std.specs.Prelude.{Some, None, Option, slice_get}
use Rattle.std.proofs.lemmas.List.{take_at, take_all}
use Rattle.std.proofs.lemmas.Option.{slice_get_within}
use Rattle.std.specs.Prelude.{Result}
use Rattle.block_host.specs.declared.failed.Failed.{Failed}
use Rattle.block_host.specs.declared.block.Block.{Block}
use Rattle.block_host.specs.Disk.{Disk, Image, Lawful}
use Rattle.block_host.specs.Sealed.{IsTorn}
use Rattle.block_host.specs.Calls.{Written, Changes, Syncs}
use Rattle.block_host.specs.Moments.{LeavesOnly}
use Rattle.block_host.specs.Order.{IsSettled, Begun, InOrder}
use Rattle.block_host.proofs.Moments.{begins, goes_on}

none_past : (xs : List Block) (i : ℕ) (block : Block) → length xs ≤ i → slice_get xs i ≡ Some block → ⊥
none_past xs i block past is = omega (arith, past, slice_get_within xs i block is)

-- lists that agree on the first places
same_front : (xs ys : List Block) → length xs ≤ length ys → ((i : ℕ) → i < length xs → slice_get ys i ≡ slice_get xs i) → take (length xs) ys ≡ xs
same_front [] ys long same = refl
same_front (x ∷ xs) [] long same = absurd (omega (arith, long))
same_front (x ∷ xs) (y ∷ ys) long same =
    let first : y ≡ x = let e : Some y ≡ Some x = same zero (omega arith) in cc in
    let rest : take (length xs) ys ≡ xs = same_front xs ys (omega (arith, long)) (λ i lt. same (suc i) (omega (arith, lt))) in
    cc

split : (xs ys : List Block) (i : ℕ) (block : Block) → length xs ≤ i → slice_get (xs ++ ys) i ≡ Some block → slice_get ys (i - length xs) ≡ Some block
split [] ys i block past is = subst (λ (k : ℕ). slice_get ys k ≡ Some block) (omega arith) is
split (x ∷ xs) ys zero block past is = absurd (omega (arith, past))
split (x ∷ xs) ys (suc i) block past is = subst (λ (k : ℕ). slice_get ys k ≡ Some block) (omega arith) (split xs ys i block (omega (arith, past)) is)

pub begun_whole : (file : ℕ) (old records : List Block) → Begun file old records (old ++ records)
begun_whole file old records = record { front = take_at old records (length old) refl; behind = λ i block past is. inl (split old records i block past is) }

pub begun_none : (file : ℕ) (old records : List Block) → Begun file old records old
begun_none file old records = record { front = take_all (length old) old (omega arith); behind = λ i block past is. absurd (none_past old i block past is) }

pub begun_written : (file : ℕ) (old records image : List Block) → Written file (length old) records old image → Begun file old records image
begun_written file old records image written = record {
  front = same_front old image written.no_shorter (λ i lt. written.kept i lt (inl lt));
  behind = λ i block past is. elim (written.each i block is) [
    | inl before ↦ absurd (none_past old i block past before)
    | inr rest ↦ elim rest [ inl record_ ↦ inl record_.1 | inr torn ↦ inr torn ]
  ];
}

single : (header block : Block) (k : ℕ) → slice_get (header ∷ []) k ≡ Some block → (k ≡ 0) × (header ≡ block)
single header block zero is = (refl, cc)
single header block (suc k) is = absurd cc

past_none : (xs : List Block) (n : ℕ) → slice_get xs n ≡ None → length xs ≤ n
past_none [] n is = omega arith
past_none (x ∷ xs) zero is = absurd cc
past_none (x ∷ xs) (suc n) is = omega (arith, past_none xs n is)

one_more : (xs ys : List Block) (last : Block) → take (length xs) ys ≡ xs → length ys ≤ length xs + 1 → slice_get ys (length xs) ≡ Some last → ys ≡ xs ++ last ∷ []
one_more [] [] last front long is = absurd cc
one_more [] (y ∷ []) last front long is = let same : y ≡ last = cc in ap (λ (z : Block). z ∷ []) same
one_more [] (y ∷ z ∷ ys) last front long is = absurd (omega (arith, long))
one_more (x ∷ xs) [] last front long is = absurd cc
one_more (x ∷ xs) (y ∷ ys) last front long is =
    let first : y ≡ x = cc in
    let rest : take (length xs) ys ≡ xs = cc in
    let more = one_more xs ys last rest (omega (arith, long)) is in
    cc

front_of_both : (xs ys : List Block) (i : ℕ) → i < length xs → slice_get (xs ++ ys) i ≡ slice_get xs i
front_of_both [] ys i lt = absurd (omega (arith, lt))
front_of_both (x ∷ xs) ys zero lt = refl
front_of_both (x ∷ xs) ys (suc i) lt = front_of_both xs ys i (omega (arith, lt))

module _ (file : ℕ) (old records : List Block) (header : Block) (image : List Block) (written : Written file (length (old ++ records)) (header ∷ []) (old ++ records) image) where
  long : length (old ++ records) ≡ length old + length records
  long = length-append old records

  whole_front : take (length (old ++ records)) image ≡ old ++ records
  whole_front = same_front (old ++ records) image written.no_shorter (λ i lt. written.kept i lt (inl lt))

  old_front : take (length old) image ≡ old
  old_front =
      same_front old image (omega (arith, written.no_shorter, long))
      (λ i lt. let within : i < length (old ++ records) = omega (arith, lt, long) in written.kept i within (inl within) ∙ front_of_both old records i lt)

  -- the block behind the records
  at_end : (end : Option Block) → slice_get image (length (old ++ records)) ≡ end → InOrder file old records header image
  at_end None is =
      let short = past_none image (length (old ++ records)) is in
      let same : image ≡ old ++ records = sym (take_all (length (old ++ records)) image short) ∙ whole_front in
      inl (subst (Begun file old records) (sym same) (begun_whole file old records))
  at_end (Some block) is =
      elim (written.each (length (old ++ records)) block is) [
        | inl before ↦ absurd (none_past (old ++ records) (length (old ++ records)) block (omega arith) before)
        | inr rest ↦ elim rest [
          | inl put ↦ (
              let one = single header block (length (old ++ records) - length (old ++ records)) put.1 in
              inr (one_more (old ++ records) image header whole_front (let most = written.no_longer in omega (arith, most)) (is ∙ ap (λ (b : Block). Some b) (sym one.1))))
          | inr torn ↦ inl (record {
            front = old_front;
            behind = λ i other past there. elim (written.each i other there) [
              | inl before ↦ inl (split old records i other past before)
              | inr more ↦ elim more [
                | inl put ↦ (
                    let one = single header other (i - length (old ++ records)) put.1 in
                    let here : i ≡ length (old ++ records) = omega (arith, put.0, one.0) in
                    let same : other ≡ block = let e : Some other ≡ Some block = sym there ∙ ap (slice_get image) here ∙ is in cc in
                    inr (subst (λ (k : ℕ). IsTorn file k other) (sym here) (subst (IsTorn file (length (old ++ records))) (sym same) torn)))
                | inr torn_too ↦ inr torn_too
              ]
            ];
          })
        ]
      ]

  pub header_written : InOrder file old records header image
  header_written = at_end (slice_get image (length (old ++ records))) refl

abbrev pub Stands : ℕ → List Block → List Block → Block → Image → List ℕ → Type 0
Stands file old records header image said = InOrder file old records header (image file)

module _ (file : ℕ) (old records : List Block) (header : Block) (d0 d1 : Disk) (lawful : Lawful d0) (settled : IsSettled file d0) (is : d0.files file ≡ old)
    (appends : Changes file (Written file (length (d0.files file)) records) d0 d1) (clock : d0.moment ≤ d1.moment) where
  -- the images behind the records
  pub records_left : (image : Image) → d1.may_leave image → Begun file old records (image file)
  records_left image left =
      let from = appends.crash image left in
      let before : from.0 file ≡ old = settled from.0 from.1 ∙ is in
      begun_written file old records (image file)
      (subst (λ (n : ℕ). Written file n records old (image file)) (ap length is) (subst (λ (b : List Block). Written file (length (d0.files file)) records b (image file)) before from.2.there))

  pub after_records : LeavesOnly d0 d1 (Stands file old records header)
  after_records =
      goes_on d0 d0 d1 (Stands file old records header) (λ said. said ≡ d1.said)
      (begins d0 (Stands file old records header) lawful (λ image left. inl (subst (Begun file old records) (sym (settled image left ∙ is)) (begun_none file old records))))
      clock appends.time (λ image said left heard. inl (records_left image left))

module _ (file : ℕ) (old records : List Block) (header : Block) (d0 d2 d3 : Disk) (run : LeavesOnly d0 d2 (Stands file old records header))
    (settled : IsSettled file d2) (is : d2.files file ≡ old ++ records) (appends : Changes file (Written file (length (d2.files file)) (header ∷ [])) d2 d3) (clock : d2.moment ≤ d3.moment) where
  -- the images behind the header
  pub header_left : (image : Image) → d3.may_leave image → InOrder file old records header (image file)
  header_left image left =
      let from = appends.crash image left in
      let before : from.0 file ≡ old ++ records = settled from.0 from.1 ∙ is in
      header_written file old records header (image file)
      (subst (λ (n : ℕ). Written file n (header ∷ []) (old ++ records) (image file)) (ap length is) (subst (λ (b : List Block). Written file (length (d2.files file)) (header ∷ []) b (image file)) before from.2.there))

  pub after_header : LeavesOnly d0 d3 (Stands file old records header)
  after_header = goes_on d0 d2 d3 (Stands file old records header) (λ said. said ≡ d3.said) run clock appends.time (λ image said left heard. header_left image left)

-- a sync leaves what might be left before
pub after_sync : {T : Type 0} (file : ℕ) (result : Result T Failed) (old mid new : Disk) (P : Image → List ℕ → Type 0) → LeavesOnly old mid P → Syncs file result mid new → mid.moment ≤ new.moment
    → ((image : Image) (said : List ℕ) → mid.may_leave image → P image said) → LeavesOnly old new P
after_sync file result old mid new P run syncs clock here = goes_on old mid new P (λ said. said ≡ new.said) run clock syncs.time (λ image said left heard. here image said (syncs.crash image left))
