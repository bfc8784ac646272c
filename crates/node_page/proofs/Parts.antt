-- Parts of one size, one behind another, and what is read of them.
use Rattle.std.proofs.Common.{◌≡◌, ◌<◌, ◌≤◌, ◌+◌, ◌-◌, ◌*◌, ℕ, zero, suc, Bool, true, List, [], ◌∷◌, ◌++◌, length, take, drop, get_or, replicate, Some, refl, sym, ◌∙◌, ap, arith, append_assoc, length-append, length-drop, take-append-drop}
use Rattle.std.proofs.lemmas.Bool.{and_parts, and_from}
use Rattle.std.proofs.lemmas.List.{take_at, drop_at, take-take, drop-take, drop-drop, get_or-drop}
use Rattle.std.specs.List.{list_all, flat_map, slice_get}
use Rattle.node_page.specs.Reading.{AreBytes, parts_in, IsZeroFrom}
use Rattle.node_page.specs.Pages.{IsPage}
use Rattle.node_page.specs.declared.page.Page.{Page}

pub bytes_drop : (n : ℕ) (bytes : List ℕ) → AreBytes bytes → AreBytes (drop n bytes)
bytes_drop n bytes are = record { each = λ i. rw (get_or-drop n bytes i 0) (are.each (n + i)) }

take_small : (n : ℕ) (bytes : List ℕ) → ((i : ℕ) → get_or bytes i 0 < 256) → (i : ℕ) → get_or (take n bytes) i 0 < 256
take_small zero bytes are i = omega arith
take_small (suc n) [] are i = omega arith
take_small (suc n) (b ∷ bytes) are zero = are 0
take_small (suc n) (b ∷ bytes) are (suc i) = take_small n bytes (λ k. are (suc k)) i

pub bytes_take : (n : ℕ) (bytes : List ℕ) → AreBytes bytes → AreBytes (take n bytes)
bytes_take n bytes are = record { each = take_small n bytes are.each }

-- a first part and a second
pub take_add : {A : Type 0} (n m : ℕ) (xs : List A) → take n xs ++ take m (drop n xs) ≡ take (n + m) xs
take_add {A} n m xs =
    let within : n ≤ n + m = omega arith in
    ap (λ (front : List A). front ++ take m (drop n xs)) (sym (take-take n (n + m) xs within))
    ∙ ap (λ (back : List A). take n (take (n + m) xs) ++ back) (sym (drop-take n m xs))
    ∙ take-append-drop n (take (n + m) xs)

-- each part that fits is read back, and what is read is written as it stood
pub record IsCodec {A : Type 0} (write : A → List ℕ) (read : List ℕ → A) (fits : A → Bool) (size : ℕ) : Type 0 where
  pub long : (x : A) → length (write x) ≡ size
  pub back : (x : A) (rest : List ℕ) → fits x ≡ true → read (write x ++ rest) ≡ x
  pub forth : (bytes : List ℕ) → AreBytes bytes → size ≤ length bytes → write (read bytes) ≡ take size bytes
  pub fit : (bytes : List ℕ) → AreBytes bytes → size ≤ length bytes → fits (read bytes) ≡ true

pub length_parts : {A : Type 0} (read : List ℕ → A) (size n : ℕ) (bytes : List ℕ) → length (parts_in read size n bytes) ≡ n
unfolding parts_in
length_parts read size zero bytes = refl
length_parts read size (suc n) bytes = ap suc (length_parts read size n (drop size bytes))

again : (size i : ℕ) (bytes : List ℕ) → drop (size * i) (drop size bytes) ≡ drop (size * suc i) bytes
again size i bytes = drop-drop (size * i) size bytes ∙ ap (λ (k : ℕ). drop k bytes) (let e : size + size * i ≡ size * suc i = omega arith in e)

first : (size : ℕ) (bytes : List ℕ) → drop (size * 0) bytes ≡ bytes
first size bytes = ap (λ (k : ℕ). drop k bytes) (let e : size * 0 ≡ 0 = omega arith in e)

pub part_at : {A : Type 0} (read : List ℕ → A) (size n i : ℕ) (bytes : List ℕ) → i < n
    → slice_get (parts_in read size n bytes) i ≡ Some (read (drop (size * i) bytes))
unfolding parts_in
part_at {A} read size zero i bytes within = absurd (omega arith)
part_at {A} read size (suc n) zero bytes within = ap (λ (bs : List ℕ). Some (read bs)) (sym (first size bytes))
part_at {A} read size (suc n) (suc i) bytes within = part_at read size n i (drop size bytes) (omega arith) ∙ ap (λ (bs : List ℕ). Some (read bs)) (again size i bytes)

pub drop_parts : {A : Type 0} (read : List ℕ → A) (size n i : ℕ) (bytes : List ℕ) → i < n
    → drop i (parts_in read size n bytes) ≡ read (drop (size * i) bytes) ∷ drop (suc i) (parts_in read size n bytes)
unfolding parts_in
drop_parts {A} read size zero i bytes within = absurd (omega arith)
drop_parts {A} read size (suc n) zero bytes within = ap (λ (bs : List ℕ). read bs ∷ parts_in read size n (drop size bytes)) (sym (first size bytes))
drop_parts {A} read size (suc n) (suc i) bytes within =
    drop_parts read size n i (drop size bytes) (omega arith)
    ∙ ap (λ (bs : List ℕ). read bs ∷ drop (suc i) (parts_in read size n (drop size bytes))) (again size i bytes)

module _ {A : Type 0} (write : A → List ℕ) (read : List ℕ → A) (fits : A → Bool) (size : ℕ) (codec : IsCodec write read fits size) where
  pub length_written : (xs : List A) → length (flat_map write xs) ≡ size * length xs
  length_written [] = omega arith
  length_written (x ∷ xs) = length-append (write x) (flat_map write xs) ∙ omega (arith, codec.long x, length_written xs)

  pub read_back : (xs : List A) (rest : List ℕ) → list_all fits xs ≡ true → parts_in read size (length xs) (flat_map write xs ++ rest) ≡ xs
  unfolding parts_in
  read_back [] rest fit = refl
  read_back (x ∷ xs) rest fit =
      let parts = and_parts (fits x) (list_all fits xs) fit in
      let behind = flat_map write xs ++ rest in
      ap (λ (bs : List ℕ). read bs ∷ parts_in read size (length xs) (drop size bs)) (append_assoc (write x) (flat_map write xs) rest)
      ∙ ap (λ (y : A). y ∷ parts_in read size (length xs) (drop size (write x ++ behind))) (codec.back x behind parts.0)
      ∙ ap (λ (bs : List ℕ). x ∷ parts_in read size (length xs) bs) (drop_at (write x) behind size (codec.long x))
      ∙ ap (λ (ys : List A). x ∷ ys) (read_back xs rest parts.1)

  pub written_forth : (n : ℕ) (bytes : List ℕ) → AreBytes bytes → size * n ≤ length bytes
      → flat_map write (parts_in read size n bytes) ≡ take (size * n) bytes
  unfolding parts_in
  written_forth zero bytes are within = ap (λ (k : ℕ). take k bytes) (let e : 0 ≡ size * 0 = omega arith in e)
  written_forth (suc n) bytes are within =
      ap (λ (bs : List ℕ). bs ++ flat_map write (parts_in read size n (drop size bytes))) (codec.forth bytes are (omega arith))
      ∙ ap (λ (bs : List ℕ). take size bytes ++ bs) (written_forth n (drop size bytes) (bytes_drop size bytes are) (omega (arith, length-drop size bytes)))
      ∙ take_add size (size * n) bytes
      ∙ ap (λ (k : ℕ). take k bytes) (let e : size + size * n ≡ size * suc n = omega arith in e)

  pub parts_fit : (n : ℕ) (bytes : List ℕ) → AreBytes bytes → size * n ≤ length bytes → list_all fits (parts_in read size n bytes) ≡ true
  unfolding parts_in
  parts_fit zero bytes are within = refl
  parts_fit (suc n) bytes are within =
      and_from (fits (read bytes)) (list_all fits (parts_in read size n (drop size bytes))) (codec.fit bytes are (omega arith))
      (parts_fit n (drop size bytes) (bytes_drop size bytes are) (omega (arith, length-drop size bytes)))

-- what a page of a front of 16 bytes and parts behind it has
pub record Holds {A : Type 0} (read : List ℕ → A) (size : ℕ) (front : List ℕ) (xs : List A) (page : Page) : Type 0 where
  pub len : page.len ≡ 16 + size * length xs
  pub begins : take 16 page.bytes ≡ front
  pub parts : parts_in read size (length xs) (drop 16 page.bytes) ≡ xs
  pub zeros : IsZeroFrom (16 + size * length xs) page.bytes

module _ {A : Type 0} (write : A → List ℕ) (read : List ℕ → A) (fits : A → Bool) (size : ℕ) (codec : IsCodec write read fits size) where
  pub holds : (front : List ℕ) (xs : List A) (page : Page) → length front ≡ 16 → list_all fits xs ≡ true
      → IsPage (front ++ flat_map write xs) page → Holds read size front xs page
  holds front xs page sixteen fit is =
      let written = flat_map write xs in
      let n : ℕ = 4064 - length (front ++ written) in
      let zeros : List ℕ = replicate n 0 in
      let counted : length (front ++ written) ≡ 16 + size * length xs = length-append front written ∙ omega (arith, length_written write read fits size codec xs) in
      let bytes : page.bytes ≡ front ++ (written ++ zeros) = is.bytes ∙ append_assoc front written zeros in
      record {
        len = is.len ∙ counted;
        begins = ap (take 16) bytes ∙ take_at front (written ++ zeros) 16 sixteen;
        parts = ap (λ (bs : List ℕ). parts_in read size (length xs) bs) (ap (drop 16) bytes ∙ drop_at front (written ++ zeros) 16 sixteen) ∙ read_back write read fits size codec xs zeros fit;
        zeros = ap (drop (16 + size * length xs)) is.bytes ∙ drop_at (front ++ written) zeros (16 + size * length xs) counted ∙ ap (λ (k : ℕ). replicate (4064 - k) 0) counted;
      }

  pub made : (front : List ℕ) (n : ℕ) (page : Page) → length front ≡ 16 → 16 + size * n ≤ 4064 → AreBytes page.bytes
      → length page.bytes ≡ 4064 → page.len ≡ 16 + size * n → take 16 page.bytes ≡ front → IsZeroFrom (16 + size * n) page.bytes
      → IsPage (front ++ flat_map write (parts_in read size n (drop 16 page.bytes))) page
  made front n page sixteen within are long len begins zeros =
      let xs = parts_in read size n (drop 16 page.bytes) in
      let written = flat_map write xs in
      let counted : length (front ++ written) ≡ 16 + size * n = length-append front written ∙ omega (arith, length_written write read fits size codec xs, ap (λ (k : ℕ). size * k) (length_parts read size n (drop 16 page.bytes))) in
      let all : front ++ written ≡ take (16 + size * n) page.bytes =
      ap (λ (bs : List ℕ). front ++ bs) (written_forth write read fits size codec n (drop 16 page.bytes) (bytes_drop 16 page.bytes are) (omega (arith, length-drop 16 page.bytes)))
      ∙ ap (λ (bs : List ℕ). bs ++ take (size * n) (drop 16 page.bytes)) (sym begins)
      ∙ take_add 16 (size * n) page.bytes in
      record {
        fits = omega (arith, counted);
        len = len ∙ sym counted;
        bytes = sym (take-append-drop (16 + size * n) page.bytes)
            ∙ ap (λ (bs : List ℕ). bs ++ drop (16 + size * n) page.bytes) (sym all)
            ∙ ap (λ (bs : List ℕ). (front ++ written) ++ bs) zeros
            ∙ ap (λ (k : ℕ). (front ++ written) ++ replicate (4064 - k) 0) (sym counted);
      }
