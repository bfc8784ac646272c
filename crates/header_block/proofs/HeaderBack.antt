-- What is read of a header that was written.
use Rattle.std.proofs.Common.{◌≡◌, ◌<◌, ◌≤◌, ◌+◌, ◌^◌, ℕ, suc, true, List, [], ◌++◌, length, Option, Some, None, IfSome, refl, ◌∙◌, arith, append_assoc, length-append}
use Rattle.std.specs.Bool.{IsTrue}
use Rattle.std.specs.List.{list_all}
use Rattle.std.specs.Option.{option_map_or}
use Rattle.std.proofs.lemmas.Bool.{and_parts, ltb-true, leb-true}
use Rattle.forest_model.specs.Stored.{StoreRow}
use Rattle.forest_model.specs.declared.stored.Header.{Header}
use Rattle.header_block.specs.Layout.{NamesBlocks, is_below, is_row, is_well_formed, long, optional, fields}
use Rattle.header_block.proofs.ReadBack.{ReadsBack, length-long}

-- the numbers of a header fit, and so do its stores
pub record FitsHeader (h : Header) : Type 0 where
  pub commit : h.commit < 2 ^ 64
  pub next_commit : h.next_commit < 2 ^ 64
  pub previous : IfSome h.previous (λ block. block < 2 ^ 41)
  pub key : IfSome h.key (λ block. block < 2 ^ 41)
  pub seq : IfSome h.seq (λ block. block < 2 ^ 41)
  pub wal_from : h.wal_from < 2 ^ 64
  pub live : h.live < 2 ^ 64
  pub next_store : h.next_store < 2 ^ 62
  pub count : length h.stores ≤ 64
  pub rows : IsTrue (list_all (is_row h.next_store) h.stores)

below_fits : (at : ℕ) (block : Option ℕ) → at < 2 ^ 41 → is_below at block ≡ true → IfSome block (λ b. b < 2 ^ 41)
below_fits at None lt is = tt
below_fits at (Some b) lt is = let below : b < at = ltb-true b at is in omega arith

pub header_fits : (at : ℕ) (h : Header) → IsTrue (is_well_formed at h) → FitsHeader h
header_fits at h is =
    let table = and_parts _ _ is in
    let next_store = and_parts _ _ table.0 in
    let live = and_parts _ _ next_store.0 in
    let next_commit = and_parts _ _ live.0 in
    let commit = and_parts _ _ next_commit.0 in
    let wal_from = and_parts _ _ commit.0 in
    let seq = and_parts _ _ wal_from.0 in
    let key = and_parts _ _ seq.0 in
    let previous = and_parts _ _ key.0 in
    let apart = and_parts _ _ table.1 in
    let rows = and_parts _ _ apart.0 in
    let count = and_parts _ _ rows.0 in
    let at_fits : at < 2 ^ 41 = ltb-true at (2 ^ 41) previous.0 in
    let later : h.commit < h.next_commit = ltb-true h.commit h.next_commit commit.1 in
    let next_fits : h.next_commit < 2 ^ 62 = ltb-true h.next_commit (2 ^ 62) next_commit.1 in
    let wal_fits : h.wal_from ≤ at + 1 = leb-true h.wal_from (at + 1) wal_from.1 in
    let live_fits : h.live < 2 ^ 62 = ltb-true h.live (2 ^ 62) live.1 in
    record {
      commit = omega arith;
      next_commit = omega arith;
      previous = below_fits at h.previous at_fits previous.1;
      key = below_fits at h.key at_fits key.1;
      seq = below_fits at h.seq at_fits seq.1;
      wal_from = omega arith;
      live = omega arith;
      next_store = ltb-true h.next_store (2 ^ 62) next_store.1;
      count = leb-true (length h.stores) 64 count.0;
      rows = rows.1;
    }

names : (block : Option ℕ) → IfSome block (λ b. b < 2 ^ 41) → IfSome block (λ b. b ≤ 2 ^ 41)
names None fits = tt
names (Some b) fits = omega arith

pub names_blocks : (h : Header) → FitsHeader h → NamesBlocks h
names_blocks h fits = record { previous = names h.previous fits.previous; key = names h.key fits.key; seq = names h.seq fits.seq }

pub small : (block : Option ℕ) → IfSome block (λ b. b < 2 ^ 41) → IfSome block (λ b. b < 2 ^ 62)
small None fits = tt
small (Some b) fits = omega arith

-- a block that is read where it was written
abbrev pub ReadsBlock : Option ℕ → List ℕ → Option ℕ → List ℕ → Type 0
ReadsBlock block old read new = (rest : List ℕ) → old ≡ optional block ++ rest → (read ≡ block) × (new ≡ rest)

parts : (a b c d e f g h i rest : List ℕ) → (a ++ b ++ c ++ d ++ e ++ f ++ g ++ h ++ i) ++ rest ≡ a ++ (b ++ (c ++ (d ++ (e ++ (f ++ (g ++ (h ++ (i ++ rest))))))))
parts a b c d e f g h i rest = simp append_assoc

-- two headers of the same fields
pub same_header : (h : Header) (commit next_commit : ℕ) (previous key seq : Option ℕ) (wal_from live next_store : ℕ) (stores : List StoreRow) → commit ≡ h.commit → next_commit ≡ h.next_commit → previous ≡ h.previous → key ≡ h.key → seq ≡ h.seq
    → wal_from ≡ h.wal_from → live ≡ h.live → next_store ≡ h.next_store → stores ≡ h.stores
    → record { commit = commit; next_commit = next_commit; previous = previous; key = key; seq = seq; wal_from = wal_from; live = live; next_store = next_store; stores = stores } ≡ h
same_header h commit next_commit previous key seq wal_from live next_store stores e1 e2 e3 e4 e5 e6 e7 e8 e9 = rw (e1, e2, e3, e4, e5, e6, e7, e8, e9) refl

pub fields_read : (h : Header) (rest r0 r1 r2 r3 r4 r5 r6 r7 r8 r9 : List ℕ) (commit next_commit : ℕ) (previous key seq : Option ℕ) (wal_from live next_store : ℕ) (stores : List StoreRow) (count : ℕ) → stores ≡ [] → r0 ≡ fields h ++ rest
    → ReadsBack h.commit r0 commit r1 → ReadsBack h.next_commit r1 next_commit r2 → ReadsBlock h.previous r2 previous r3 → ReadsBlock h.key r3 key r4 → ReadsBlock h.seq r4 seq r5
    → ReadsBack h.wal_from r5 wal_from r6 → ReadsBack h.live r6 live r7 → ReadsBack h.next_store r7 next_store r8 → ReadsBack (length h.stores) r8 count r9
    → (record { commit = commit; next_commit = next_commit; previous = previous; key = key; seq = seq; wal_from = wal_from; live = live; next_store = next_store; stores = stores } ≡ record h { stores = [] }) × (count ≡ length h.stores) × (r9 ≡ rest)
fields_read h rest r0 r1 r2 r3 r4 r5 r6 r7 r8 r9 commit next_commit previous key seq wal_from live next_store stores count none is b1 b2 b3 b4 b5 b6 b7 b8 b9 =
    let p9 = long (length h.stores) ++ rest in
    let p8 = long h.next_store ++ p9 in
    let p7 = long h.live ++ p8 in
    let p6 = long h.wal_from ++ p7 in
    let p5 = optional h.seq ++ p6 in
    let p4 = optional h.key ++ p5 in
    let p3 = optional h.previous ++ p4 in
    let p2 = long h.next_commit ++ p3 in
    let e1 = b1 p2 (is ∙ parts (long h.commit) (long h.next_commit) (optional h.previous) (optional h.key) (optional h.seq) (long h.wal_from) (long h.live) (long h.next_store) (long (length h.stores)) rest) in
    let e2 = b2 p3 e1.1 in
    let e3 = b3 p4 e2.1 in
    let e4 = b4 p5 e3.1 in
    let e5 = b5 p6 e4.1 in
    let e6 = b6 p7 e5.1 in
    let e7 = b7 p8 e6.1 in
    let e8 = b8 p9 e7.1 in
    let e9 = b9 rest e8.1 in
    (same_header (record h { stores = [] }) commit next_commit previous key seq wal_from live next_store stores e1.0 e2.0 e3.0 e4.0 e5.0 e6.0 e7.0 e8.0 none, e9.0, e9.1)

length-nine : (a b c d e f g h i : List ℕ) → length (a ++ b ++ c ++ d ++ e ++ f ++ g ++ h ++ i) ≡ length a + length b + length c + length d + length e + length f + length g + length h + length i
length-nine a b c d e f g h i = simp length-append

-- no header is shorter
pub length-fields : (h : Header) → length (fields h) ≡ 72
length-fields h =
    length-nine (long h.commit) (long h.next_commit) (optional h.previous) (optional h.key) (optional h.seq) (long h.wal_from) (long h.live) (long h.next_store) (long (length h.stores))
    ∙ omega (arith, length-long h.commit, length-long h.next_commit, length-long (option_map_or suc h.previous 0), length-long (option_map_or suc h.key 0), length-long (option_map_or suc h.seq 0), length-long h.wal_from, length-long h.live, length-long h.next_store, length-long (length h.stores))
