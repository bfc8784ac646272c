-- What the sequential store reads of a sealed block: its kind, and the first fields of a header.
use Rattle.std.proofs.Common.{◌≡◌, ℕ, ◌+◌, ◌-◌, ◌<◌, ◌≤◌, ◌^◌, suc, List, [], ◌∷◌, ◌++◌, length, take, drop, refl, sym, ap, ◌∙◌, arith, append_assoc}
use Rattle.std.specs.Prelude.{replicate, ◌==◌, Option, Some, None, IfSome}
use Rattle.std.specs.List.{flat_map}
use Rattle.std.specs.Option.{option_map_or}
use Rattle.std.specs.Int.{w16, w64, to_be_bytes, from_be_bytes}
use Rattle.std.proofs.lemmas.Nat.{from_be_bytes-to_be_bytes_8}
use Rattle.std.proofs.Math.Seq.{drop-append-add, take-append-add}
use Rattle.block_host.proofs.Back.{kind_back}
use Rattle.block_host.specs.Sealed.{IsSealed, sealed_front, with_checksum, padded, zeros}
use Rattle.block_host.specs.declared.block.Block.{Block}
use Rattle.node_page.specs.Pages.{IsPage}
use Rattle.node_page.specs.declared.page.Page.{Page}
use Rattle.header_block.specs.Layout.{header_bytes, long, optional, store_bytes}
use Rattle.forest_model.specs.Blocks.{long_at}
use Rattle.file_commit.specs.Committing.{TellsHeader}
use Rattle.forest_model.specs.declared.stored.Header.{Header}

nothing_more : (xs ys : List ℕ) → xs ++ take 0 ys ≡ xs
nothing_more [] ys = refl
nothing_more (x ∷ xs) ys = ap (λ zs. x ∷ zs) (nothing_more xs ys)

-- a number that stands behind a front
number_at : (front rest : List ℕ) (at n : ℕ) → length front ≡ at → n < 2 ^ 64 → long_at (front ++ long n ++ rest) at ≡ n
unfolding long
number_at front rest at n is small =
    let e : at ≡ length front + 0 = omega (arith, is) in
    let d : (at + 8) - at ≡ length (long n) + 0 = omega arith in
    ap (λ xs. from_be_bytes w64 (take ((at + 8) - at) xs)) (ap (drop at) (append_assoc front (long n) rest) ∙ ap (λ k. drop k (front ++ (long n ++ rest))) e ∙ drop-append-add front (long n ++ rest) 0)
    ∙ ap (λ k. from_be_bytes w64 (take k (long n ++ rest))) d
    ∙ ap (from_be_bytes w64) (take-append-add (long n) rest 0 ∙ nothing_more (long n) rest)
    ∙ from_be_bytes-to_be_bytes_8 n small

-- padded bytes begin with the bytes
begins : (n : ℕ) (bytes behind : List ℕ) → (rest : List ℕ) × (padded n bytes ++ behind ≡ bytes ++ rest)
unfolding padded
begins n bytes behind = (zeros (n - length bytes) ++ behind, append_assoc bytes (zeros (n - length bytes)) behind)

-- the checksum stands behind all else
checked : (front : List ℕ) → (sum : List ℕ) × (with_checksum front ≡ front ++ sum)
unfolding with_checksum
checked front = (_, refl)

again : (a b c d : List ℕ) → (a ++ b ++ c) ++ d ≡ a ++ ((b ++ c) ++ d)
again a b c d = append_assoc (a ++ b) c d ∙ append_assoc a b (c ++ d) ∙ ap (λ xs. a ++ xs) (sym (append_assoc b c d))

-- the block behind its payload: the tag, and what stands behind that
parts_of : (revision at kind : ℕ) (payload : List ℕ) (block : Block) → IsSealed revision at kind payload block
    → (rest : List ℕ) × (block.bytes ≡ padded 4064 payload ++ (kind ∷ 1 ∷ []) ++ (to_be_bytes w16 (length payload) ++ rest))
unfolding sealed_front
parts_of revision at kind payload block s =
    let tag = kind ∷ 1 ∷ [] in
    let used = to_be_bytes w16 (length payload) in
    let inner = padded 4064 payload ++ tag ++ used in
    let sum = checked (padded 4072 inner ++ to_be_bytes w64 revision ++ to_be_bytes w64 at) in
    let a = begins 4072 inner ((to_be_bytes w64 revision ++ to_be_bytes w64 at) ++ sum.0) in
    (a.0, s.bytes ∙ sum.1 ∙ again (padded 4072 inner) (to_be_bytes w64 revision) (to_be_bytes w64 at) sum.0 ∙ a.1 ∙ append_assoc (padded 4064 payload ++ tag) used a.0)

-- a sealed block begins with its payload
pub front_of : (revision at kind : ℕ) (payload : List ℕ) (block : Block) → IsSealed revision at kind payload block → (rest : List ℕ) × (block.bytes ≡ payload ++ rest)
front_of revision at kind payload block s =
    let p = parts_of revision at kind payload block s in
    let used = to_be_bytes w16 (length payload) ++ p.0 in
    let b = begins 4064 payload ((kind ∷ 1 ∷ []) ++ used) in
    (b.0, p.1 ∙ append_assoc (padded 4064 payload) (kind ∷ 1 ∷ []) used ∙ b.1)

-- ---- a header's commit number, its link and the block from which its records count

last_four : (x g i j k rest : List ℕ) → (x ++ g ++ i ++ j ++ k) ++ rest ≡ x ++ (g ++ (i ++ (j ++ (k ++ rest))))
last_four x g i j k rest =
    append_assoc (x ++ g ++ i ++ j) k rest ∙ append_assoc (x ++ g ++ i) j (k ++ rest) ∙ append_assoc (x ++ g) i (j ++ (k ++ rest)) ∙ append_assoc x g (i ++ (j ++ (k ++ rest)))

three_more : (y d e f rest : List ℕ) → (y ++ d ++ e ++ f) ++ rest ≡ y ++ (d ++ (e ++ (f ++ rest)))
three_more y d e f rest = append_assoc (y ++ d ++ e) f rest ∙ append_assoc (y ++ d) e (f ++ rest) ∙ append_assoc y d (e ++ (f ++ rest))

module _ (revision at : ℕ) (h : Header) (block : Block) (is : IsSealed revision at 4 (header_bytes h) block) where
  rest : List ℕ
  rest = (front_of revision at 4 (header_bytes h) block is).0

  behind : List ℕ
  behind = long h.live ++ (long h.next_store ++ (long (length h.stores) ++ (flat_map store_bytes h.stores ++ rest)))

  from_field : block.bytes ≡ (long h.commit ++ long h.next_commit ++ optional h.previous ++ optional h.key ++ optional h.seq) ++ long h.wal_from ++ behind
  unfolding rest behind
  from_field =
      (front_of revision at 4 (header_bytes h) block is).1
      ∙ last_four (long h.commit ++ long h.next_commit ++ optional h.previous ++ optional h.key ++ optional h.seq ++ long h.wal_from) (long h.live) (long h.next_store) (long (length h.stores)) (flat_map store_bytes h.stores) rest

  link_field : block.bytes ≡ (long h.commit ++ long h.next_commit) ++ optional h.previous ++ (optional h.key ++ (optional h.seq ++ (long h.wal_from ++ behind)))
  link_field = from_field ∙ three_more (long h.commit ++ long h.next_commit ++ optional h.previous) (optional h.key) (optional h.seq) (long h.wal_from) behind

  number_field : block.bytes ≡ long h.commit ++ (long h.next_commit ++ (optional h.previous ++ (optional h.key ++ (optional h.seq ++ (long h.wal_from ++ behind)))))
  number_field =
      let after = optional h.key ++ (optional h.seq ++ (long h.wal_from ++ behind)) in
      link_field ∙ append_assoc (long h.commit ++ long h.next_commit) (optional h.previous) after ∙ append_assoc (long h.commit) (long h.next_commit) (optional h.previous ++ after)

  pub number_of : h.commit < 2 ^ 64 → long_at block.bytes 0 ≡ h.commit
  unfolding long
  number_of small = ap (λ xs. long_at xs 0) number_field ∙ number_at [] (long h.next_commit ++ (optional h.previous ++ (optional h.key ++ (optional h.seq ++ (long h.wal_from ++ behind))))) 0 h.commit refl small

  pub link_of : option_map_or suc h.previous 0 < 2 ^ 64 → long_at block.bytes 16 ≡ option_map_or suc h.previous 0
  unfolding long
  link_of small = ap (λ xs. long_at xs 16) link_field ∙ number_at (long h.commit ++ long h.next_commit) (optional h.key ++ (optional h.seq ++ (long h.wal_from ++ behind))) 16 (option_map_or suc h.previous 0) refl small

  pub from_of : h.wal_from < 2 ^ 64 → long_at block.bytes 40 ≡ h.wal_from
  unfolding long
  from_of small = ap (λ xs. long_at xs 40) from_field ∙ number_at (long h.commit ++ long h.next_commit ++ optional h.previous ++ optional h.key ++ optional h.seq) behind 40 h.wal_from refl small

-- the payload of a page
pub payload_is : (payload : List ℕ) (page : Page) → IsPage payload page → take page.len page.bytes ≡ payload
payload_is payload page is =
    ap (λ (xs : List ℕ). take page.len xs) is.bytes
    ∙ ap (λ n. take n (payload ++ replicate (4064 - length payload) 0)) (let e : page.len ≡ length payload + 0 = omega (arith, is.len) in e)
    ∙ take-append-add payload (replicate (4064 - length payload) 0) 0 ∙ nothing_more payload (replicate (4064 - length payload) 0)

-- what is read in the block of a header, whose numbers are those of eight bytes
pub tells : (revision at : ℕ) (h : Header) (block : Block) → IsSealed revision at 4 (header_bytes h) block → h.commit < 2 ^ 64 → h.wal_from < 2 ^ 64 → option_map_or suc h.previous 0 < 2 ^ 64
    → TellsHeader h block.bytes
tells revision at h block is commit from previous = record {
  whole = is.whole;
  kind = ap (λ k. k == 4) (kind_back revision at 4 (header_bytes h) block is);
  number = number_of revision at h block is commit;
  link = link_of revision at h block is previous;
  from = from_of revision at h block is from;
}

pub small_link : (previous : Option ℕ) → IfSome previous (λ block. block ≤ 2 ^ 41) → option_map_or suc previous 0 < 2 ^ 64
small_link None low = omega arith
small_link (Some block) low = omega (arith, low)
