-- A block that is written part by part.
use Rattle.std.proofs.Common.{◌≡◌, ℕ, ◌≤◌, ◌<◌, suc, Bool, List, [], ◌∷◌, ◌++◌, length, take, refl, sym, ◌∙◌, ap, arith, length-append}
use Rattle.std.specs.Prelude.{◌&&◌, IsTrue, nat_lt, slice_index}
use Rattle.std.specs.List.{list_all}
use Rattle.std.proofs.lemmas.Bool.{lt-ltb, eq-eqb}
use Rattle.sha2.specs.Sha256.{sha256}
use Rattle.block_host.specs.Sealed.{zeros, zero_block, padded, with_checksum, is_whole}
use Rattle.block_host.proofs.Padding.{padded-none, padded-whole, take-padded, length-padded, put_on}

pub zero_block-bytes : zero_block.bytes ≡ zeros 4096
unfolding zero_block
zero_block-bytes = refl

-- a part written at a place, up to which all is written
abbrev pub PutsPart : List ℕ → ℕ → List ℕ → List ℕ → Type 0
PutsPart old at part new = (front : List ℕ) → length front ≤ at → old ≡ padded 4096 front → new ≡ padded 4096 (padded at front ++ part)

pub length-front : (kind : ℕ) (payload used revision at : List ℕ) → length payload ≤ 4064 → length used ≡ 2 → length revision ≡ 8 → length at ≡ 8 → length (padded 4072 (padded 4064 payload ++ (kind ∷ 1 ∷ []) ++ used) ++ revision ++ at) ≡ 4088
length-front kind payload used revision at fits two eight eight' =
    let head = padded 4064 payload ++ (kind ∷ 1 ∷ []) ++ used in
    let l1 : length (padded 4064 payload) ≡ 4064 = length-padded 4064 payload fits in
    let l2 : length head ≡ 4068 = omega (arith, length-append (padded 4064 payload ++ (kind ∷ 1 ∷ [])) used, length-append (padded 4064 payload) (kind ∷ 1 ∷ [])) in
    let l3 : length (padded 4072 head) ≡ 4072 = length-padded 4072 head (omega arith) in
    omega (arith, length-append (padded 4072 head ++ revision) at, length-append (padded 4072 head) revision)

-- the parts in turn, and the checksum of what they are; they are a block's bytes
pub written_in_turn : (kind : ℕ) (payload used revision at sum b0 b1 b2 b3 b4 b5 b6 : List ℕ) → length payload ≤ 4064 → length used ≡ 2 → length revision ≡ 8 → length at ≡ 8 → length sum ≡ 8
    → b0 ≡ zeros 4096 → PutsPart b0 0 payload b1 → PutsPart b1 4064 (kind ∷ 1 ∷ []) b2 → PutsPart b2 4066 used b3 → PutsPart b3 4072 revision b4 → PutsPart b4 4080 at b5
    → sum ≡ take 8 (sha256 (take 4088 b5)) → PutsPart b5 4088 sum b6
    → (b6 ≡ with_checksum (padded 4072 (padded 4064 payload ++ (kind ∷ 1 ∷ []) ++ used) ++ revision ++ at)) × (length b6 ≡ 4096)
unfolding with_checksum
written_in_turn kind payload used revision at sum b0 b1 b2 b3 b4 b5 b6 fits two eight eight' long start s1 s2 s3 s4 s5 sums s6 =
    let tag = kind ∷ 1 ∷ [] in
    let f2 = padded 4064 payload ++ tag in
    let f3 = f2 ++ used in
    let f4 = padded 4072 f3 ++ revision in
    let f5 = f4 ++ at in
    let l1 : length (padded 4064 payload) ≡ 4064 = length-padded 4064 payload fits in
    let l2 : length f2 ≡ 4066 = omega (arith, length-append (padded 4064 payload) tag) in
    let l3 : length f3 ≡ 4068 = omega (arith, length-append f2 used) in
    let l3' : length (padded 4072 f3) ≡ 4072 = length-padded 4072 f3 (omega arith) in
    let l4 : length f4 ≡ 4080 = omega (arith, length-append (padded 4072 f3) revision) in
    let l5 : length f5 ≡ 4088 = omega (arith, length-append f4 at) in
    let l6 : length (f5 ++ sum) ≡ 4096 = omega (arith, length-append f5 sum) in
    let e1 : b1 ≡ padded 4096 payload = put_on 4096 0 [] payload b1 refl (s1 [] (omega arith) (start ∙ sym (padded-none 4096))) in
    let e2 : b2 ≡ padded 4096 f2 = s2 payload fits e1 in
    let e3 : b3 ≡ padded 4096 f3 = put_on 4096 4066 f2 used b3 l2 (s3 f2 (omega arith) e2) in
    let e4 : b4 ≡ padded 4096 f4 = s4 f3 (omega arith) e3 in
    let e5 : b5 ≡ padded 4096 f5 = put_on 4096 4080 f4 at b5 l4 (s5 f4 (omega arith) e4) in
    let e6 : b6 ≡ padded 4096 (f5 ++ sum) = put_on 4096 4088 f5 sum b6 l5 (s6 f5 (omega arith) e5) in
    let front : take 4088 b5 ≡ f5 = ap (λ (b : List ℕ). take 4088 b) e5 ∙ take-padded 4096 4088 f5 (omega arith) (omega arith) ∙ padded-whole 4088 f5 l5 in
    let e7 : b6 ≡ f5 ++ sum = e6 ∙ padded-whole 4096 (f5 ++ sum) l6 in
    (e7 ∙ ap (λ (cs : List ℕ). f5 ++ cs) (sums ∙ ap (λ (f : List ℕ). take 8 (sha256 f)) front), ap length e7 ∙ l6)

-- ---- bytes that are a block's

pub all_bytes : (bytes : List ℕ) → ((i : ℕ) → slice_index bytes i < 256) → IsTrue (list_all (λ b. nat_lt b 256) bytes)
all_bytes [] each = refl
all_bytes (b ∷ bytes) each = ap (λ (t : Bool). t && list_all (λ c. nat_lt c 256) bytes) (lt-ltb b 256 (each 0)) ∙ all_bytes bytes (λ i. each (suc i))

pub is_whole_by : (bytes : List ℕ) → length bytes ≡ 4096 → IsTrue (list_all (λ b. nat_lt b 256) bytes) → IsTrue (is_whole bytes)
is_whole_by bytes long all = ap (λ (t : Bool). t && list_all (λ b. nat_lt b 256) bytes) (eq-eqb (length bytes) 4096 long) ∙ all
