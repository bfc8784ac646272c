-- What is read of what was written.
use Rattle.std.proofs.Common.{◌≡◌, ◌<◌, ◌≤◌, ◌+◌, ◌-◌, ◌*◌, ◌^◌, ℕ, zero, suc, Bool, true, Some, List, [], ◌∷◌, ◌++◌, length, take, drop, get_or, replicate, sym, refl, ◌∙◌, ap, arith, append_assoc, length-append}
use Rattle.std.specs.Bool.{IsTrue}
use Rattle.std.proofs.lemmas.Bool.{and_parts, ltb-true, leb-true}
use Rattle.std.proofs.lemmas.List.{take_at, drop_at, take_more, length-replicate}
use Rattle.std.proofs.lemmas.Option.{none-some, same_Some, slice_get_within, get_or_from_slice_get}
use Rattle.std.specs.List.{list_all, flat_map, slice_get}
use Rattle.forest_model.specs.Stored.{StoreRow}
use Rattle.header_block.specs.Layout.{is_row, long, store_bytes}
use Rattle.header_block.proofs.Places.{at_place}

-- the numbers of a store fit, and so does its name
pub record FitsRow (s : StoreRow) : Type 0 where
  pub id : s.id < 2 ^ 62
  pub name : length s.name ≤ 31
  pub seq : s.seq < 2 ^ 62
  pub documents : s.documents < 2 ^ 62

pub row_fits : (next : ℕ) (s : StoreRow) → next < 2 ^ 62 → IsTrue (is_row next s) → FitsRow s
row_fits next s small is =
    let documents = and_parts _ _ is in
    let seq = and_parts _ _ documents.0 in
    let longest = and_parts _ _ seq.0 in
    let shortest = and_parts _ _ longest.0 in
    let id : s.id < next = ltb-true s.id next shortest.0 in
    record { id = omega arith; name = leb-true (length s.name) 31 longest.1; seq = ltb-true s.seq (2 ^ 62) seq.1; documents = ltb-true s.documents (2 ^ 62) documents.1 }

-- a number that is read where it was written
abbrev pub ReadsBack : ℕ → List ℕ → ℕ → List ℕ → Type 0
ReadsBack n old read new = (rest : List ℕ) → old ≡ long n ++ rest → (read ≡ n) × (new ≡ rest)

-- what is read is this store, its name in a field with zeros
pub record ReadsStore (s : StoreRow) (rest : List ℕ) (read_id read_len : ℕ) (read_field : List ℕ) (read_seq read_documents : ℕ) (read_left : List ℕ) : Type 0 where
  pub id : read_id ≡ s.id
  pub len : read_len ≡ length s.name
  pub field : read_field ≡ s.name ++ replicate (31 - length s.name) 0
  pub seq : read_seq ≡ s.seq
  pub documents : read_documents ≡ s.documents
  pub left : read_left ≡ rest

parts : (id name zeros seq documents rest : List ℕ) (len : ℕ) → (id ++ (len ∷ []) ++ name ++ zeros ++ seq ++ documents) ++ rest ≡ id ++ (len ∷ ((name ++ zeros) ++ (seq ++ (documents ++ rest))))
parts id name zeros seq documents rest len = simp append_assoc

module _ (s : StoreRow) (rest : List ℕ) (fits : FitsRow s) where
  field_length : length (s.name ++ replicate (31 - length s.name) 0) ≡ 31
  field_length = omega (arith, fits.name, length-append s.name (replicate (31 - length s.name) 0), length-replicate {A = ℕ} (31 - length s.name) 0)

  pub store_read : (old one byte two field three four five : List ℕ) (id len seq documents : ℕ) → old ≡ store_bytes s ++ rest
      → ReadsBack s.id old id one → byte ≡ take 1 one → two ≡ drop 1 one → len ≡ get_or byte 0 0 → field ≡ take 31 two → three ≡ drop 31 two
      → ReadsBack s.seq three seq four → ReadsBack s.documents four documents five → ReadsStore s rest id len field seq documents five
  store_read old one byte two field three four five id len seq documents is id_back byte_is two_is len_is field_is three_is seq_back documents_back =
      let zeros = replicate (31 - length s.name) 0 in
      let behind = long s.seq ++ (long s.documents ++ rest) in
      let first = id_back (length s.name ∷ ((s.name ++ zeros) ++ behind)) (is ∙ parts (long s.id) s.name zeros (long s.seq) (long s.documents) rest (length s.name)) in
      let two_at : two ≡ (s.name ++ zeros) ++ behind = two_is ∙ ap (λ (xs : List ℕ). drop 1 xs) first.1 in
      let third = seq_back (long s.documents ++ rest) (three_is ∙ ap (λ (xs : List ℕ). drop 31 xs) two_at ∙ drop_at (s.name ++ zeros) behind 31 field_length) in
      let fourth = documents_back rest third.1 in
      record {
        id = first.0;
        len = len_is ∙ ap (λ (xs : List ℕ). get_or xs 0 0) (byte_is ∙ ap (λ (xs : List ℕ). take 1 xs) first.1);
        field = field_is ∙ ap (λ (xs : List ℕ). take 31 xs) two_at ∙ take_at (s.name ++ zeros) behind 31 field_length;
        seq = third.0;
        documents = fourth.0;
        left = fourth.1;
      }

-- the name at the front of its field
pub name_read : (name zeros field : List ℕ) (len : ℕ) → field ≡ name ++ zeros → len ≡ length name → take len field ≡ name
name_read name zeros field len field_is len_is = ap (λ (xs : List ℕ). take len xs) field_is ∙ take_at name zeros len (sym len_is)

pub same_row : (s : StoreRow) (id : ℕ) (name : List ℕ) (seq documents : ℕ) → id ≡ s.id → name ≡ s.name → seq ≡ s.seq → documents ≡ s.documents → record { id = id; name = name; seq = seq; documents = documents } ≡ s
same_row s id name seq documents id_is name_is seq_is documents_is =
    let row : ℕ → List ℕ → ℕ → ℕ → StoreRow = λ a b c d. record { id = a; name = b; seq = c; documents = d } in
    ap (λ a. row a name seq documents) id_is ∙ ap (λ b. row s.id b seq documents) name_is ∙ ap (λ c. row s.id s.name c documents) seq_is ∙ ap (λ d. row s.id s.name s.seq d) documents_is

list_all_at : {X : Type 0} (p : X → Bool) (xs : List X) (n : ℕ) (x : X) → list_all p xs ≡ true → slice_get xs n ≡ Some x → p x ≡ true
list_all_at p [] n x is there = absurd (none-some x there)
list_all_at p (y ∷ ys) zero x is there = ap p (sym (same_Some y x there)) ∙ (and_parts (p y) (list_all p ys) is).0
list_all_at p (y ∷ ys) (suc n) x is there = list_all_at p ys n x (and_parts (p y) (list_all p ys) is).1 there

pub length-long : (n : ℕ) → length (long n) ≡ 8
unfolding long
length-long n = refl

length-six : (a b c d e f : List ℕ) → length (a ++ b ++ c ++ d ++ e ++ f) ≡ length a + length b + length c + length d + length e + length f
length-six a b c d e f = simp length-append

length-store_bytes : (s : StoreRow) → FitsRow s → length (store_bytes s) ≡ 56
length-store_bytes s fits =
    length-six (long s.id) (length s.name ∷ []) s.name (replicate (31 - length s.name) 0) (long s.seq) (long s.documents)
    ∙ omega (arith, fits.name, length-long s.id, length-long s.seq, length-long s.documents, length-replicate {A = ℕ} (31 - length s.name) 0)

-- stores have 56 bytes each
pub length-stores : (next : ℕ) (rows : List StoreRow) → next < 2 ^ 62 → IsTrue (list_all (is_row next) rows) → length (flat_map store_bytes rows) ≡ 56 * length rows
length-stores next [] small are_rows = refl
length-stores next (s ∷ later) small are_rows =
    let parts = and_parts (is_row next s) (list_all (is_row next) later) are_rows in
    let first = length-store_bytes s (row_fits next s small parts.0) in
    let others = length-stores next later small parts.1 in
    length-append (store_bytes s) (flat_map store_bytes later) ∙ omega (arith, first, others)

take_one_more : (rows : List StoreRow) (n : ℕ) (s : StoreRow) → slice_get rows n ≡ Some s → take (n + 1) rows ≡ take n rows ++ s ∷ []
take_one_more rows n s there = take_more rows n s (slice_get_within rows n s there) ∙ ap (λ (r : StoreRow). take n rows ++ r ∷ []) (get_or_from_slice_get rows n s s there)

-- with this many stores read, of those that stand there
pub record HasRead (old : List ℕ) (count n : ℕ) (stores : List StoreRow) (left : List ℕ) : Type 0 where
  pub len : length stores ≡ n
  pub room : length left + 56 * n ≡ 56 * count
  pub back : (next : ℕ) (rows : List StoreRow) → next < 2 ^ 62 → length rows ≡ count → IsTrue (list_all (is_row next) rows) → old ≡ flat_map store_bytes rows
      → (stores ≡ take n rows) × (left ≡ flat_map store_bytes (drop n rows))

-- the next store is read
pub next_read : (old : List ℕ) (count n : ℕ) (stores : List StoreRow) (left : List ℕ) (row : StoreRow) (now : List StoreRow) (behind : List ℕ) → HasRead old count n stores left → n < count
    → now ≡ stores ++ row ∷ [] → length behind + 56 ≡ length left
    → ((next : ℕ) (s : StoreRow) (rest : List ℕ) → next < 2 ^ 62 → IsTrue (is_row next s) → left ≡ store_bytes s ++ rest → (row ≡ s) × (behind ≡ rest))
    → HasRead old count (n + 1) now behind
next_read old count n stores left row now behind read within pushed shorter back = record {
  len = ap length pushed ∙ length-append stores (row ∷ []) ∙ ap (λ (k : ℕ). k + 1) read.len;
  room = omega (arith, read.room, shorter);
  back = λ next rows small counted are_rows is.
      let so_far = read.back next rows small counted are_rows is in
      let here = at_place rows n (omega (arith, counted, within)) in
      let one = back next here.0 (flat_map store_bytes (drop (n + 1) rows)) small (list_all_at (is_row next) rows n here.0 are_rows here.1) (so_far.1 ∙ ap (flat_map store_bytes) here.2) in
      (pushed ∙ ap (λ (xs : List StoreRow). xs ++ row ∷ []) so_far.0 ∙ ap (λ (s : StoreRow). take n rows ++ s ∷ []) one.0 ∙ sym (take_one_more rows n here.0 here.1), one.1);
}
