-- A record read part by part: its head, and what stands behind it.
use Rattle.std.proofs.Common.{◌≡◌, ℕ, ◌+◌, ◌-◌, ◌^◌, ◌≤◌, ◌<◌, true, false, List, [], ◌++◌, length, take, drop, IsTrue, inl, inr, refl, sym, ◌∙◌, ap, subst, arith, rules, append_assoc, length-append}
use Rattle.std.specs.Int.{w16, w32, w64, from_be_bytes}
use Rattle.std.proofs.lemmas.Bool.{and_parts, ltb-true}
use Rattle.std.proofs.lemmas.List.{append-nil, nil_from_length, take_at, drop_at}
use Rattle.std.proofs.lemmas.Nat.{from_be_bytes-to_be_bytes_2, from_be_bytes-to_be_bytes_4, from_be_bytes-to_be_bytes_8}
use Rattle.block_host.specs.declared.block.Block.{Block}
use Rattle.forest_model.specs.declared.stored.Rec.{Rec}
use Rattle.doc_stream.specs.Heads.{allows, head_with, has_form}
use Rattle.doc_stream.specs.Broken.{Begins, IsHead}
use Rattle.forest_model.specs.Records.{record_bytes, head_bytes, is_record, has_numbers}
use Rattle.doc_stream.specs.Runs.{Piece}
use Rattle.doc_stream.specs.Shown.{Asked}
use Rattle.doc_stream.specs.Steps.{Place, in_hand, IsWithin, SameBelow, Stretch, Takes, Stops, TakesRecord, StopsRecord}
use Rattle.doc_stream.proofs.Blocks.{same_less}
use Rattle.doc_stream.proofs.Steps.{begins_none, split_front}

pub record FitsRecord (r : Rec) : Type 0 where
  pub key : length r.key ≤ 3500
  pub body : length r.body ≤ 1048576
  pub store : r.store < 2 ^ 64
  pub seq : r.seq < 2 ^ 64

fits_key : (r : Rec) → IsTrue (is_record r) → length r.key ≤ 3500
fits_key r is = search rules

fits_body : (r : Rec) → IsTrue (is_record r) → length r.body ≤ 1048576
fits_body r is = search rules

pub fits_record : (r : Rec) → IsTrue (is_record r) → FitsRecord r
fits_record r is =
    let numbers = and_parts (has_numbers r) (has_form r) is in
    let both = and_parts _ _ numbers.0 in
    record { key = fits_key r is; body = fits_body r is; store = ltb-true r.store (2 ^ 64) both.0; seq = ltb-true r.seq (2 ^ 64) both.1 }

-- the numbers of a head
pub record SameNumbers (a b c d e f a' b' c' d' e' f' : ℕ) : Type 0 where
  pub kind : a ≡ a'
  pub meta : b ≡ b'
  pub key : c ≡ c'
  pub body : d ≡ d'
  pub store : e ≡ e'
  pub seq : f ≡ f'

pub head_once : (kind meta key body store seq kind' meta' key' body' store' seq' : ℕ) → key < 2 ^ 16 → body < 2 ^ 32 → store < 2 ^ 64 → seq < 2 ^ 64 → key' < 2 ^ 16 → body' < 2 ^ 32 → store' < 2 ^ 64 → seq' < 2 ^ 64
    → head_with kind meta key body store seq ≡ head_with kind' meta' key' body' store' seq' → SameNumbers kind meta key body store seq kind' meta' key' body' store' seq'
head_once kind meta key body store seq kind' meta' key' body' store' seq' f1 f2 f3 f4 g1 g2 g3 g4 is = record {
  kind = cc;
  meta = cc;
  key = sym (from_be_bytes-to_be_bytes_2 key f1) ∙ ap (λ (bytes : List ℕ). from_be_bytes w16 (take 2 (drop 2 bytes))) is ∙ from_be_bytes-to_be_bytes_2 key' g1;
  body = sym (from_be_bytes-to_be_bytes_4 body f2) ∙ ap (λ (bytes : List ℕ). from_be_bytes w32 (take 4 (drop 4 bytes))) is ∙ from_be_bytes-to_be_bytes_4 body' g2;
  store = sym (from_be_bytes-to_be_bytes_8 store f3) ∙ ap (λ (bytes : List ℕ). from_be_bytes w64 (take 8 (drop 8 bytes))) is ∙ from_be_bytes-to_be_bytes_8 store' g3;
  seq = sym (from_be_bytes-to_be_bytes_8 seq f4) ∙ ap (λ (bytes : List ℕ). from_be_bytes w64 (take 8 (drop 16 bytes))) is ∙ from_be_bytes-to_be_bytes_8 seq' g4;
}

pub length-head : (r : Rec) → length (head_bytes r) ≡ 24
length-head r = refl

-- a record's bytes behind its head
abbrev pub behind_head : Rec → List ℕ
behind_head r = r.key ++ r.meta ++ r.body

pub record_split : (r : Rec) → record_bytes r ≡ head_bytes r ++ behind_head r
record_split r = ap (λ (l : List ℕ). l ++ r.body) (append_assoc (head_bytes r) r.key r.meta) ∙ append_assoc (head_bytes r) (r.key ++ r.meta) r.body

pub length-behind : (r : Rec) → length (behind_head r) ≡ length r.key + length r.meta + length r.body
length-behind r = omega (arith, length-append (r.key ++ r.meta) r.body, length-append r.key r.meta)

long_record : (r : Rec) → length (record_bytes r) ≡ 24 + length (behind_head r)
long_record r = ap length (record_split r) ∙ length-append (head_bytes r) (behind_head r) ∙ ap (λ (n : ℕ). n + length (behind_head r)) (length-head r)

-- fewer bytes than a head
pub stops_head : (asked : Asked) (file : List Block) (place : Place) (block : ℕ) → Stops asked file place 24 block → StopsRecord asked file place block
stops_head asked file place block stops = record {
  reached = stops.reached;
  within = stops.within;
  breaks = (let few = stops.fewer in (few.0, inl (inl few.1, few.2)));
  broken = λ other r behind same is s. let long = long_record r in stops.broken other (record_bytes r) behind same (omega arith) s;
}

pub front_of : (xs ys zs ws : List ℕ) → length xs ≡ length zs → xs ++ ys ≡ zs ++ ws → (xs ≡ zs) × (ys ≡ ws)
front_of xs ys zs ws same is = (
  sym (take_at xs ys (length xs) refl) ∙ ap (λ (l : List ℕ). take (length xs) l) is ∙ take_at zs ws (length xs) (sym same),
  sym (drop_at xs ys (length xs) refl) ∙ ap (λ (l : List ℕ). drop (length xs) l) is ∙ drop_at zs ws (length xs) (sym same),
)

-- records that agree in their numbers and in the bytes behind their heads
pub same_rec : (r s : Rec) → r.kind ≡ s.kind → r.store ≡ s.store → r.seq ≡ s.seq → length r.key ≡ length s.key → length r.meta ≡ length s.meta → behind_head r ≡ behind_head s → r ≡ s
same_rec r s same_kind same_store same_seq same_key same_meta all =
    let first = front_of r.key (r.meta ++ r.body) s.key (s.meta ++ s.body) same_key (sym (append_assoc r.key r.meta r.body) ∙ all ∙ append_assoc s.key s.meta s.body) in
    let second = front_of r.meta r.body s.meta s.body same_meta first.1 in
    let make : ℕ → ℕ → ℕ → List ℕ → List ℕ → List ℕ → Rec = λ k t q a b c. record { kind = k; store = t; seq = q; key = a; meta = b; body = c } in
    ap (λ (k : ℕ). make k r.store r.seq r.key r.meta r.body) same_kind ∙ ap (λ (t : ℕ). make s.kind t r.seq r.key r.meta r.body) same_store
    ∙ ap (λ (q : ℕ). make s.kind s.store q r.key r.meta r.body) same_seq ∙ ap (λ (a : List ℕ). make s.kind s.store s.seq a r.meta r.body) first.0
    ∙ ap (λ (b : List ℕ). make s.kind s.store s.seq s.key b r.body) second.0 ∙ ap (λ (c : List ℕ). make s.kind s.store s.seq s.key s.meta c) second.1

-- the record blocks begin with a head
module _ (asked : Asked) (file : List Block) (old mid : Place) (head : List ℕ) (long : length head ≡ 24) (takes : Takes asked file old mid head) where
  -- so does each record that stands there
  head_front : (block : ℕ) (other : List Block) (r : Rec) (behind : List Piece) → mid.next ≤ block → SameBelow block file other → Stretch asked other old (record_bytes r) behind
      → (head ≡ head_bytes r) × Stretch asked other mid (behind_head r) behind
  head_front block other r behind le same s =
      let all_long = long_record r in
      let front = takes.back other (record_bytes r) behind (same_less mid.next block file other le same) (omega arith) s in
      let parts = split_front head front.0 (head_bytes r) (behind_head r) (sym front.1 ∙ record_split r) (omega arith) in
      let none : parts.0 ≡ [] = nil_from_length parts.0 (omega (arith, ap length parts.1, length-append head parts.0)) in (
        sym (parts.1 ∙ ap (λ (l : List ℕ). head ++ l) none ∙ append-nil head),
        subst (λ (l : List ℕ). Stretch asked other mid l behind) (parts.2 ∙ ap (λ (l : List ℕ). l ++ behind_head r) none) front.2,
      )

  -- no record has it
  pub stops_kind : 1 ≤ mid.next → IsWithin asked.tail asked.end mid.next → ((r : Rec) → IsTrue (is_record r) → head ≡ head_bytes r → ⊥) → StopsRecord asked file old (mid.next - 1)
  stops_kind first within never =
      let block : mid.next ≡ mid.next - 1 + 1 = omega arith in
      let later = takes.later in
      record {
        reached = omega arith;
        within = subst (λ (n : ℕ). IsWithin asked.tail asked.end n) block within;
        breaks = (
          head,
          inr (
            inl (long, never),
            record {
              last = in_hand mid;
              begins = subst (λ (l : List ℕ). Begins asked file (in_hand old) l (in_hand mid)) (append-nil head) (takes.begins [] (in_hand mid) (begins_none asked file (in_hand mid)));
              in_block = refl;
            },
          ),
        );
        broken = λ other r behind same is s. never r is (head_front (mid.next - 1 + 1) other r behind (omega arith) same s).0;
      }

  module _ (kind meta key body store seq : ℕ) (key_fits : key < 2 ^ 16) (body_fits : body < 2 ^ 32) (store_fits : store < 2 ^ 64) (seq_fits : seq < 2 ^ 64) (head_is : head ≡ head_with kind meta key body store seq) where
    numbers_of : (r : Rec) → IsTrue (is_record r) → head ≡ head_bytes r → SameNumbers r.kind (length r.meta) (length r.key) (length r.body) r.store r.seq kind meta key body store seq
    numbers_of r is same =
        let fits = fits_record r is in
        let key_small = fits.key in
        let body_small = fits.body in
        head_once r.kind (length r.meta) (length r.key) (length r.body) r.store r.seq kind meta key body store seq (omega arith) (omega arith) fits.store fits.seq key_fits body_fits store_fits seq_fits (sym same ∙ head_is)

    -- fewer bytes than it says
    pub stops_parts : IsTrue (allows kind meta key body seq) → (count block : ℕ) → count ≡ key + meta + body → Stops asked file mid count block → StopsRecord asked file old block
    stops_parts allowed count block counted stops =
        let later = takes.later in
        let reached = stops.reached in
        let few = stops.fewer in
        let is_head : IsHead head count = record { kind = kind; meta = meta; key = key; body = body; store = store; seq = seq; allowed = allowed; behind = counted; is = head_is } in
        record {
          reached = omega arith;
          within = stops.within;
          breaks = (head ++ few.0, inl (inr (head, few.0, count, is_head, refl, few.1), record { last = few.2.last; begins = takes.begins few.0 few.2.last few.2.begins; none = few.2.none; why = few.2.why }));
          broken = λ other r behind same is s.
              let front = head_front (block + 1) other r behind reached same s in
              let numbers = numbers_of r is front.0 in
              let rest = length-behind r in
              let same_key = numbers.key in
              let same_meta = numbers.meta in
              let same_body = numbers.body in
              stops.broken other (behind_head r) behind same (omega arith) front.1;
        }

    -- the parts behind it
    module _ (new : Place) (rec : Rec) (kind_is : rec.kind ≡ kind) (meta_is : length rec.meta ≡ meta) (key_is : length rec.key ≡ key) (body_is : length rec.body ≡ body) (store_is : rec.store ≡ store) (seq_is : rec.seq ≡ seq)
        (further : Takes asked file mid new (behind_head rec)) where
      same_head : head ≡ head_bytes rec
      same_head = head_is ∙ cc

      parts_front : (other : List Block) (r : Rec) (behind : List Piece) → SameBelow new.next file other → IsTrue (is_record r) → Stretch asked other old (record_bytes r) behind → (r ≡ rec) × Stretch asked other new [] behind
      parts_front other r behind same is s =
          let later = further.later in
          let front = head_front new.next other r behind later same s in
          let numbers = numbers_of r is front.0 in
          let same_key : length r.key ≡ length rec.key = numbers.key ∙ sym key_is in
          let same_meta : length r.meta ≡ length rec.meta = numbers.meta ∙ sym meta_is in
          let same_body : length r.body ≡ length rec.body = numbers.body ∙ sym body_is in
          let long_r = length-behind r in
          let long_rec = length-behind rec in
          let rest = further.back other (behind_head r) behind same (omega arith) front.1 in
          let none : rest.0 ≡ [] = nil_from_length rest.0 (omega (arith, ap length rest.1, length-append (behind_head rec) rest.0)) in
          let all : behind_head r ≡ behind_head rec = rest.1 ∙ ap (λ (l : List ℕ). behind_head rec ++ l) none ∙ append-nil (behind_head rec) in
          (same_rec r rec (numbers.kind ∙ sym kind_is) (numbers.store ∙ sym store_is) (numbers.seq ∙ sym seq_is) same_key same_meta all, subst (λ (l : List ℕ). Stretch asked other new l behind) none rest.2)

      begins_record : Begins asked file (in_hand old) (head ++ behind_head rec) (in_hand new)
      begins_record =
          let behind : Begins asked file (in_hand mid) (behind_head rec) (in_hand new) = subst (λ (l : List ℕ). Begins asked file (in_hand mid) l (in_hand new)) (append-nil (behind_head rec)) (further.begins [] (in_hand new) (begins_none asked file (in_hand new))) in
          takes.begins (behind_head rec) (in_hand new) behind

      whole : head ++ behind_head rec ≡ record_bytes rec
      whole = ap (λ (l : List ℕ). l ++ behind_head rec) same_head ∙ sym (record_split rec)

      pub takes_record : TakesRecord asked file old new rec
      takes_record =
          let first_later = takes.later in
          let later = further.later in
          record {
            later = omega arith;
            on = λ other behind same s.
                let bytes : head ++ (behind_head rec ++ []) ≡ record_bytes rec = ap (λ (l : List ℕ). head ++ l) (append-nil (behind_head rec)) ∙ ap (λ (l : List ℕ). l ++ behind_head rec) same_head ∙ sym (record_split rec) in
                subst (λ (l : List ℕ). Stretch asked other old l behind) bytes
                (takes.on other (behind_head rec ++ []) behind (same_less mid.next new.next file other later same) (further.on other [] behind same s));
            back = λ other r behind same is s. parts_front other r behind same is s;
            begins = subst (λ (l : List ℕ). Begins asked file (in_hand old) l (in_hand new)) whole begins_record;
          }

      form_of : (r : Rec) → IsTrue (is_record r) → r ≡ rec → has_form rec ≡ false → ⊥
      form_of r is same never =
          let parts = and_parts (has_numbers r) (has_form r) is in
          let yes : has_form rec ≡ true = ap has_form (sym same) ∙ parts.1 in
          let both : true ≡ false = sym yes ∙ never in
          absurd cc

      -- nor has a record these bytes
      no_other : (r : Rec) → IsTrue (is_record r) → head ++ behind_head rec ≡ record_bytes r → r ≡ rec
      no_other r is same =
          let split = front_of head (behind_head rec) (head_bytes r) (behind_head r) (long ∙ sym (length-head r)) (same ∙ record_split r) in
          let numbers = numbers_of r is split.0 in
          same_rec r rec (numbers.kind ∙ sym kind_is) (numbers.store ∙ sym store_is) (numbers.seq ∙ sym seq_is) (numbers.key ∙ sym key_is) (numbers.meta ∙ sym meta_is) (sym split.1)

      -- its name isn't one
      pub stops_form : IsTrue (allows kind meta key body seq) → 1 ≤ new.next → IsWithin asked.tail asked.end new.next → has_form rec ≡ false → StopsRecord asked file old (new.next - 1)
      stops_form allowed first within never =
          let count = key + meta + body in
          let counted : length (behind_head rec) ≡ count = omega (arith, length-behind rec, key_is, meta_is, body_is) in
          let is_head : IsHead head count = record { kind = kind; meta = meta; key = key; body = body; store = store; seq = seq; allowed = allowed; behind = refl; is = head_is } in
          let block : new.next ≡ new.next - 1 + 1 = omega arith in
          let first_later = takes.later in
          let later = further.later in
          record {
            reached = omega arith;
            within = subst (λ (n : ℕ). IsWithin asked.tail asked.end n) block within;
            breaks = (
              head ++ behind_head rec,
              inr (
                inr (head, behind_head rec, count, is_head, refl, counted, λ r is same. form_of r is (no_other r is same) never),
                record { last = in_hand new; begins = begins_record; in_block = refl },
              ),
            );
            broken = λ other r behind same is s.
                form_of r is (parts_front other r behind (subst (λ (n : ℕ). SameBelow n file other) (sym block) same) is s).0 never;
          }
