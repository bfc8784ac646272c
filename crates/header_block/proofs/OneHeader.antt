-- A payload has one header, and a file one list of headers, which goes by the blocks up to the last.
use Rattle.std.proofs.Common.{◌≡◌, ◌⊎◌, inl, inr, ◌<◌, ◌≤◌, ◌+◌, ◌-◌, ◌^◌, ℕ, zero, suc, true, List, [], ◌∷◌, ◌++◌, length, take, drop, get_or, replicate, slice_get, Option, Some, None, IfSome, refl, sym, ◌∙◌, ap, subst, arith}
use Rattle.std.specs.Bool.{IsTrue}
use Rattle.std.specs.Int.{w64, from_be_bytes}
use Rattle.std.specs.List.{list_all, flat_map}
use Rattle.std.specs.Option.{option_map_or}
use Rattle.std.proofs.lemmas.Bool.{and_parts, ltb-true}
use Rattle.std.proofs.lemmas.List.{take_at, drop_at}
use Rattle.std.proofs.lemmas.Nat.{from_be_bytes-to_be_bytes_8}
use Rattle.std.proofs.lemmas.Option.{none-some, same_Some}
use Rattle.block_host.specs.Sealed.{IsSealed}
use Rattle.block_host.specs.declared.block.Block.{Block}
use Rattle.block_host.proofs.Back.{used_back, payload_back}
use Rattle.forest_model.specs.Stored.{StoreRow}
use Rattle.forest_model.specs.declared.stored.Header.{Header}
use Rattle.header_block.specs.Headers.{AreHeadersOf, AreLinked, IsHeaderAt, IsLast, LinksTo, Placed, SameUpTo}
use Rattle.header_block.specs.Layout.{fields, header_bytes, is_below, is_row, is_well_formed, long, optional, store_bytes}
use Rattle.header_block.proofs.HeaderBack.{FitsHeader, ReadsBlock, fields_read, header_fits}
use Rattle.header_block.proofs.ReadBack.{FitsRow, ReadsBack, ReadsStore, length-long, name_read, row_fits, same_row, store_read}

-- the number at the front of bytes, and the block that it names
abbrev front : List ℕ → ℕ
front bytes = from_be_bytes w64 (take 8 bytes)

abbrev named : ℕ → Option ℕ
named zero = None
named (suc n) = Some n

number_back : (n : ℕ) → n < 2 ^ 64 → from_be_bytes w64 (long n) ≡ n
unfolding long
number_back n fits = from_be_bytes-to_be_bytes_8 n fits

long_back : (n : ℕ) (old : List ℕ) → n < 2 ^ 64 → ReadsBack n old (front old) (drop 8 old)
long_back n old fits rest is = (
  ap front is ∙ ap (λ (l : List ℕ). from_be_bytes w64 l) (take_at (long n) rest 8 (length-long n)) ∙ number_back n fits,
  ap (λ (l : List ℕ). drop 8 l) is ∙ drop_at (long n) rest 8 (length-long n),
)

block_back : (block : Option ℕ) (old : List ℕ) → IfSome block (λ b. b < 2 ^ 41) → ReadsBlock block old (named (front old)) (drop 8 old)
block_back None old fits rest is =
    let back = long_back 0 old (omega arith) rest is in
    (ap named back.0, back.1)
block_back (Some b) old fits rest is =
    let back = long_back (suc b) old (omega arith) rest is in
    (ap named back.0, back.1)

-- the header of bytes but for its stores, and what is behind it
abbrev head_of : List ℕ → Header
head_of r = record {
  commit = front r;
  next_commit = front (drop 8 r);
  previous = named (front (drop 8 (drop 8 r)));
  key = named (front (drop 8 (drop 8 (drop 8 r))));
  seq = named (front (drop 8 (drop 8 (drop 8 (drop 8 r)))));
  wal_from = front (drop 8 (drop 8 (drop 8 (drop 8 (drop 8 r)))));
  live = front (drop 8 (drop 8 (drop 8 (drop 8 (drop 8 (drop 8 r))))));
  next_store = front (drop 8 (drop 8 (drop 8 (drop 8 (drop 8 (drop 8 (drop 8 r)))))));
  stores = [];
}

abbrev eighth : List ℕ → List ℕ
eighth r = drop 8 (drop 8 (drop 8 (drop 8 (drop 8 (drop 8 (drop 8 (drop 8 r)))))))

abbrev ReadsHeader : Header → List ℕ → Type 0
ReadsHeader h r = (head_of r ≡ record h { stores = [] }) × (front (eighth r) ≡ length h.stores) × (drop 8 (eighth r) ≡ flat_map store_bytes h.stores)

header_read : (h : Header) (r : List ℕ) → FitsHeader h → r ≡ header_bytes h → ReadsHeader h r
header_read h r fits is =
    let a = drop 8 r in
    let b = drop 8 a in
    let c = drop 8 b in
    let d = drop 8 c in
    let e = drop 8 d in
    let f = drop 8 e in
    let g = drop 8 f in
    let i = drop 8 g in
    let count = fits.count in
    let next = fits.next_store in
    fields_read h (flat_map store_bytes h.stores) r a b c d e f g i (drop 8 i) (front r) (front a) (named (front b)) (named (front c)) (named (front d)) (front e) (front f) (front g) [] (front i) refl is
    (long_back h.commit r fits.commit) (long_back h.next_commit a fits.next_commit) (block_back h.previous b fits.previous) (block_back h.key c fits.key) (block_back h.seq d fits.seq)
    (long_back h.wal_from e fits.wal_from) (long_back h.live f fits.live) (long_back h.next_store g (omega arith)) (long_back (length h.stores) i (omega arith))

-- the store of bytes
abbrev row_of : List ℕ → StoreRow
row_of r =
    let one = drop 8 r in
    let two = drop 1 one in
    let three = drop 31 two in
    record { id = front r; name = take (get_or (take 1 one) 0 0) (take 31 two); seq = front three; documents = front (drop 8 three) }

abbrev behind_row : List ℕ → List ℕ
behind_row r = drop 8 (drop 8 (drop 31 (drop 1 (drop 8 r))))

row_read : (s : StoreRow) (rest r : List ℕ) → FitsRow s → r ≡ store_bytes s ++ rest → (row_of r ≡ s) × (behind_row r ≡ rest)
row_read s rest r fits is =
    let one = drop 8 r in
    let byte = take 1 one in
    let two = drop 1 one in
    let field = take 31 two in
    let three = drop 31 two in
    let four = drop 8 three in
    let id_fits = fits.id in
    let seq_fits = fits.seq in
    let documents_fits = fits.documents in
    let read = store_read s rest fits r one byte two field three four (drop 8 four) (front r) (get_or byte 0 0) (front three) (front four) is
    (long_back s.id r (omega arith)) refl refl refl refl refl (long_back s.seq three (omega arith)) (long_back s.documents four (omega arith)) in
    let name = name_read s.name (replicate (31 - length s.name) 0) field (get_or byte 0 0) read.field read.len in
    (same_row s (front r) (take (get_or byte 0 0) field) (front three) (front four) read.id name read.seq read.documents, read.left)

rows_once : (next : ℕ) (rows others : List StoreRow) → next < 2 ^ 62 → IsTrue (list_all (is_row next) rows) → IsTrue (list_all (is_row next) others) → length rows ≡ length others → flat_map store_bytes rows ≡ flat_map store_bytes others → rows ≡ others
rows_once next [] [] small all all' count same = refl
rows_once next [] (t ∷ others) small all all' count same = absurd (omega arith)
rows_once next (s ∷ rows) [] small all all' count same = absurd (omega arith)
rows_once next (s ∷ rows) (t ∷ others) small all all' count same =
    let p = and_parts (is_row next s) (list_all (is_row next) rows) all in
    let q = and_parts (is_row next t) (list_all (is_row next) others) all' in
    let r = store_bytes s ++ flat_map store_bytes rows in
    let one = row_read s (flat_map store_bytes rows) r (row_fits next s small p.0) refl in
    let two = row_read t (flat_map store_bytes others) r (row_fits next t small q.0) same in
    let first : s ≡ t = sym one.0 ∙ two.0 in
    let rest = rows_once next rows others small p.1 q.1 (omega arith) (sym one.1 ∙ two.1) in
    ap (λ (x : StoreRow). x ∷ rows) first ∙ ap (λ (l : List StoreRow). t ∷ l) rest

same_but : (h g : Header) → record h { stores = [] } ≡ record g { stores = [] } → h.stores ≡ g.stores → h ≡ g
same_but h g same stores =
    let put : Header → List StoreRow → Header = λ x l. record x { stores = l } in
    ap (λ (x : Header). put x h.stores) same ∙ ap (λ (l : List StoreRow). put g l) stores

pub one_header : (at : ℕ) (h g : Header) → IsTrue (is_well_formed at h) → IsTrue (is_well_formed at g) → header_bytes h ≡ header_bytes g → h ≡ g
one_header at h g is is' same =
    let fits = header_fits at h is in
    let fits' = header_fits at g is' in
    let one = header_read h (header_bytes h) fits refl in
    let two = header_read g (header_bytes h) fits' same in
    let head : record h { stores = [] } ≡ record g { stores = [] } = sym one.0 ∙ two.0 in
    let next : h.next_store ≡ g.next_store = ap (λ (x : Header). x.next_store) head in
    let rows' : IsTrue (list_all (is_row h.next_store) g.stores) = subst (λ (n : ℕ). IsTrue (list_all (is_row n) g.stores)) (sym next) fits'.rows in
    same_but h g head (rows_once h.next_store h.stores g.stores fits.next_store fits.rows rows' (sym one.1 ∙ two.1) (sym one.2 ∙ two.2))

-- a block has one header
one_payload : (revision at : ℕ) (p q : List ℕ) (block : Block) → IsSealed revision at 4 p block → IsSealed revision at 4 q block → p ≡ q
one_payload revision at p q block a b =
    let used : length p ≡ length q = sym (used_back revision at 4 p block a) ∙ used_back revision at 4 q block b in
    sym (payload_back revision at 4 p block a) ∙ ap (λ (n : ℕ). take n block.bytes) used ∙ payload_back revision at 4 q block b

header_there : (revision : ℕ) (file : List Block) (at : ℕ) (h g : Header) → IsHeaderAt revision file at h → IsHeaderAt revision file at g → h ≡ g
header_there revision file at h g a b =
    let same : a.block ≡ b.block = same_Some a.block b.block (sym a.there ∙ b.there) in
    let sealed : IsSealed revision at 4 (header_bytes g) a.block = subst (λ (x : Block). IsSealed revision at 4 (header_bytes g) x) (sym same) b.is_sealed in
    one_header at h g a.well_formed b.well_formed (one_payload revision at (header_bytes h) (header_bytes g) a.block a.is_sealed sealed)

placed_once : (revision : ℕ) (file : List Block) (h g : Placed) → h.0 ≡ g.0 → IsHeaderAt revision file h.0 h.1 → IsHeaderAt revision file g.0 g.1 → h ≡ g
placed_once revision file (at, h) (at', g) same a b =
    let header : h ≡ g = header_there revision file at h g a (subst (λ (n : ℕ). IsHeaderAt revision file n g) (sym same) b) in
    ap (λ (n : ℕ). (n, h)) same ∙ ap (λ (x : Header). (at', x)) header

linked_once : (revision : ℕ) (file : List Block) (h : Header) (older older' : List Placed) → LinksTo h older → LinksTo h older' → AreLinked revision file older → AreLinked revision file older' → older ≡ older'
linked_once revision file h [] [] links links' linked linked' = refl
linked_once revision file h [] (g ∷ older') links links' linked linked' = absurd (none-some g.0 (sym links ∙ links'.0))
linked_once revision file h (g ∷ older) [] links links' linked linked' = absurd (none-some g.0 (sym links' ∙ links.0))
linked_once revision file h (g ∷ older) (g' ∷ older') links links' linked linked' =
    let at : g.0 ≡ g'.0 = same_Some g.0 g'.0 (sym links.0 ∙ links'.0) in
    let same : g ≡ g' = placed_once revision file g g' at linked.0 linked'.0 in
    let rest = linked_once revision file g.1 older older' linked.1 (subst (λ (x : Placed). LinksTo x.1 older') (sym same) linked'.1) linked.2 linked'.2 in
    ap (λ (x : Placed). x ∷ older) same ∙ ap (λ (l : List Placed). g' ∷ l) rest

order : (a b : ℕ) → (a < b) ⊎ ((b < a) ⊎ (a ≡ b))
order zero zero = inr (inr refl)
order zero (suc b) = inl (omega arith)
order (suc a) zero = inr (inl (omega arith))
order (suc a) (suc b) = elim (order a b) [
  | inl lt ↦ inl (omega arith)
  | inr other ↦ elim other [
    | inl gt ↦ inr (inl (omega arith))
    | inr same ↦ inr (inr (ap suc same))
  ]
]

last_once : (revision : ℕ) (file : List Block) (h g : Placed) → IsLast revision file h.0 → IsLast revision file g.0 → IsHeaderAt revision file h.0 h.1 → IsHeaderAt revision file g.0 g.1 → (h.0 < g.0) ⊎ ((g.0 < h.0) ⊎ (h.0 ≡ g.0)) → h.0 ≡ g.0
last_once revision file h g last last' a b (inl lt) = absurd (last g.0 b.block (header_bytes g.1) lt b.there b.is_sealed)
last_once revision file h g last last' a b (inr (inl gt)) = absurd (last' h.0 a.block (header_bytes h.1) gt a.there a.is_sealed)
last_once revision file h g last last' a b (inr (inr same)) = same

pub one_list : (revision : ℕ) (file : List Block) (last last' : Placed) (older older' : List Placed) → AreHeadersOf revision file last older → AreHeadersOf revision file last' older' → last ∷ older ≡ last' ∷ older'
one_list revision file last last' older older' a b =
    let at = last_once revision file last last' a.is_last b.is_last a.linked.0 b.linked.0 (order last.0 last'.0) in
    let same : last ≡ last' = placed_once revision file last last' at a.linked.0 b.linked.0 in
    let rest = linked_once revision file last.1 older older' a.linked.1 (subst (λ (x : Placed). LinksTo x.1 older') (sym same) b.linked.1) a.linked.2 b.linked.2 in
    ap (λ (x : Placed). x ∷ older) same ∙ ap (λ (l : List Placed). last' ∷ l) rest

-- a previous header lies below
below_some : (at b : ℕ) (block : Option ℕ) → block ≡ Some b → is_below at block ≡ true → b < at
below_some at b block is below = ltb-true b at (sym (ap (λ (x : Option ℕ). is_below at x) is) ∙ below)

pub previous_below : (at b : ℕ) (h : Header) → IsTrue (is_well_formed at h) → h.previous ≡ Some b → b < at
previous_below at b h is links =
    let table = and_parts _ _ is in
    let next_store = and_parts _ _ table.0 in
    let live = and_parts _ _ next_store.0 in
    let next_commit = and_parts _ _ live.0 in
    let commit = and_parts _ _ next_commit.0 in
    let wal_from = and_parts _ _ commit.0 in
    let seq = and_parts _ _ wal_from.0 in
    let key = and_parts _ _ seq.0 in
    let previous = and_parts _ _ key.0 in
    below_some at b h.previous links previous.1

header_stays : (revision upto : ℕ) (old new : List Block) (at : ℕ) (h : Header) → SameUpTo upto old new → at ≤ upto → IsHeaderAt revision old at h → IsHeaderAt revision new at h
header_stays revision upto old new at h same le a = record { block = a.block; there = same at le ∙ a.there; is_sealed = a.is_sealed; well_formed = a.well_formed }

pub linked_stay : (revision upto : ℕ) (old new : List Block) (h : Placed) (older : List Placed) → SameUpTo upto old new → h.0 ≤ upto → AreLinked revision old (h ∷ older) → AreLinked revision new (h ∷ older)
linked_stay revision upto old new h [] same le a = (header_stays revision upto old new h.0 h.1 same le a.0, a.1, tt)
linked_stay revision upto old new h (g ∷ older) same le a =
    let below : g.0 < h.0 = previous_below h.0 g.0 h.1 a.0.well_formed a.1.0 in
    (header_stays revision upto old new h.0 h.1 same le a.0, a.1, linked_stay revision upto old new g older same (omega arith) a.2)
