-- A file has one last header or one block by which it has none, and a header one before it.
use Rattle.std.proofs.Common.{◌≡◌, ◌⊎◌, inl, inr, ℕ, zero, suc, ◌+◌, ◌<◌, ◌≤◌, List, [], ◌∷◌, slice_get, Option, Some, None, Result, Ok, Err, Bool, IsTrue, MatchOption, refl, sym, ◌∙◌, ap, subst, arith}
use Rattle.std.proofs.lemmas.Bool.{and_parts, ltb-true}
use Rattle.std.proofs.lemmas.Option.{same_Some, none-some}
use Rattle.block_host.specs.Disk.{risen}
use Rattle.block_host.specs.Sealed.{IsSealed}
use Rattle.block_host.specs.declared.block.Block.{Block}
use Rattle.forest_model.specs.declared.refusal.Refusal.{Refusal}
use Rattle.forest_model.specs.declared.stored.Header.{Header}
use Rattle.header_block.specs.Headers.{IsHeaderAt, IsLast, LinksTo, Placed}
use Rattle.header_block.specs.Layout.{header_bytes, is_below, is_well_formed}
use Rattle.header_chain.specs.Chain.{BreaksLink, HasNoLast, IsBefore, IsLastHeader, IsSealedAt, Reason}
use Rattle.header_chain.proofs.Read.{sealed_once}

pub order : (a b : ℕ) → (a < b) ⊎ ((b < a) ⊎ (a ≡ b))
order zero zero = inr (inr refl)
order zero (suc b) = inl (omega arith)
order (suc a) zero = inr (inl (omega arith))
order (suc a) (suc b) = elim (order a b) [
  | inl lt ↦ inl (omega arith)
  | inr other ↦ elim other [
    | inl gt ↦ inr (inl (omega arith))
    | inr same ↦ inr (inr (ap suc same))
  ]
]

-- a header links to a block below its own
below_some : (at b : ℕ) (block : Option ℕ) → block ≡ Some b → IsTrue (is_below at block) → b < at
below_some at b block is below = ltb-true b at (subst (λ (o : Option ℕ). IsTrue (is_below at o)) is below)

pub leads_down : (at b : ℕ) (h : Header) → IsTrue (is_well_formed at h) → h.previous ≡ Some b → b < at
leads_down at b h is links =
    let table = and_parts _ _ is in
    let next_store = and_parts _ _ table.0 in
    let live = and_parts _ _ next_store.0 in
    let next_commit = and_parts _ _ live.0 in
    let commit = and_parts _ _ next_commit.0 in
    let wal_from = and_parts _ _ commit.0 in
    let seq = and_parts _ _ wal_from.0 in
    let key = and_parts _ _ seq.0 in
    let previous = and_parts _ _ key.0 in
    below_some at b h.previous links previous.1

-- what a block was found to have
abbrev pub Found : ℕ → List Block → ℕ → Option Header → Type 0
Found revision file at found = MatchOption found (IsSealedAt revision file at → ⊥) (IsHeaderAt revision file at)

abbrev pub IsIll : ℕ → List Block → ℕ → Type 0
IsIll revision file at = IsSealedAt revision file at × ((h : Header) → IsHeaderAt revision file at h → ⊥)

module _ (revision : ℕ) (file : List Block) where
  pub sealed_header : (at : ℕ) (h : Header) → IsHeaderAt revision file at h → IsSealedAt revision file at
  sealed_header at h a = record { block = a.block; payload = header_bytes h; there = a.there; is_sealed = a.is_sealed }

  pub found_some : (at : ℕ) (found : Option Header) (h : Header) → found ≡ Some h → Found revision file at found → IsHeaderAt revision file at h
  found_some at found h is here = subst (λ (o : Option Header). Found revision file at o) is here

  pub found_none : (at : ℕ) (found : Option Header) → ((h : Header) → found ≡ Some h → ⊥) → Found revision file at found → IsSealedAt revision file at → ⊥
  found_none at None not here = here
  found_none at (Some h) not here = absurd (not h refl)

  -- of two blocks that are sealed as headers, with none behind
  at_once : (a b : ℕ) → IsSealedAt revision file a → IsLast revision file a → IsSealedAt revision file b → IsLast revision file b → a ≡ b
  at_once a b sa la sb lb = elim (order a b) [
    | inl lt ↦ absurd (la b sb.block sb.payload lt sb.there sb.is_sealed)
    | inr other ↦ elim other [
      | inl gt ↦ absurd (lb a sa.block sa.payload gt sa.there sa.is_sealed)
      | inr same ↦ same
    ]
  ]

  pub never_both : (last : Placed) (block : ℕ) → IsLastHeader revision file last → HasNoLast revision file block → ⊥
  never_both last block a (inl ill) =
      let same : last.0 ≡ block = at_once last.0 block (sealed_header last.0 last.1 a.header) a.is_last ill.0 ill.2 in
      ill.1 last.1 (subst (λ (n : ℕ). IsHeaderAt revision file n last.1) same a.header)
  never_both last block a (inr none) = none.1 last.0 (sealed_header last.0 last.1 a.header)

  pub no_last_once : (block other : ℕ) → HasNoLast revision file block → HasNoLast revision file other → block ≡ other
  no_last_once block other (inl a) (inl b) = at_once block other a.0 a.2 b.0 b.2
  no_last_once block other (inl a) (inr b) = absurd (b.1 block a.0)
  no_last_once block other (inr a) (inl b) = absurd (a.1 other b.0)
  no_last_once block other (inr a) (inr b) = a.0 ∙ sym b.0

  -- nothing is sealed as a header from a block on
  pub is_last_of : (left at : ℕ) → left ≡ at + 1 → ((n : ℕ) → left ≤ n → IsSealedAt revision file n → ⊥) → IsLast revision file at
  is_last_of left at next none later block payload lt there sealed = none later (omega arith) (record { block = block; payload = payload; there = there; is_sealed = sealed })

  pub last_here : (other : List Block) (left at : ℕ) (h : Header) → other ≡ file → left ≡ at + 1 → ((n : ℕ) → left ≤ n → IsSealedAt revision file n → ⊥) → IsHeaderAt revision other at h → IsLastHeader revision file (at, h)
  last_here other left at h same next none here = record { header = subst (λ (f : List Block). IsHeaderAt revision f at h) same here; is_last = is_last_of left at next none }

  pub never_broken : (h : Header) (found : Option Placed) (block : ℕ) → IsBefore revision file h found → BreaksLink revision file h block → ⊥
  never_broken h None block a breaks = none-some block (sym a ∙ breaks.links)
  never_broken h (Some g) block a breaks =
      let same : g.0 ≡ block = same_Some g.0 block (sym a.0.0 ∙ breaks.links) in
      breaks.broken g.1 (subst (λ (n : ℕ). IsHeaderAt revision file n g.1) same a.1) (subst (λ (n : ℕ). LinksTo h ((n, g.1) ∷ [])) same a.0)

-- where a payload has one header
module _ (one : (at : ℕ) (h g : Header) → IsTrue (is_well_formed at h) → IsTrue (is_well_formed at g) → header_bytes h ≡ header_bytes g → h ≡ g) (revision : ℕ) (file : List Block) where
  pub header_once : (at : ℕ) (h g : Header) → IsHeaderAt revision file at h → IsHeaderAt revision file at g → h ≡ g
  header_once at h g a b =
      let same : a.block ≡ b.block = same_Some a.block b.block (sym a.there ∙ b.there) in
      let sealed : IsSealed revision at 4 (header_bytes g) a.block = subst (λ (x : Block). IsSealed revision at 4 (header_bytes g) x) (sym same) b.is_sealed in
      one at h g a.well_formed b.well_formed (sealed_once revision at 4 4 (header_bytes h) (header_bytes g) a.block a.is_sealed sealed).1

  placed_once : (a b : Placed) → a.0 ≡ b.0 → IsHeaderAt revision file a.0 a.1 → IsHeaderAt revision file b.0 b.1 → a ≡ b
  placed_once (at, h) (at', g) same a b =
      let header : h ≡ g = header_once at h g a (subst (λ (n : ℕ). IsHeaderAt revision file n g) (sym same) b) in
      ap (λ (n : ℕ). (n, h)) same ∙ ap (λ (x : Header). (at', x)) header

  pub last_once : (last other : Placed) → IsLastHeader revision file last → IsLastHeader revision file other → last ≡ other
  last_once last other a b =
      placed_once last other (at_once revision file last.0 other.0 (sealed_header revision file last.0 last.1 a.header) a.is_last (sealed_header revision file other.0 other.1 b.header) b.is_last) a.header b.header

  pub before_once : (h : Header) (found other : Option Placed) → IsBefore revision file h found → IsBefore revision file h other → found ≡ other
  before_once h None None a b = refl
  before_once h None (Some g) a b = absurd (none-some g.0 (sym a ∙ b.0.0))
  before_once h (Some g) None a b = absurd (none-some g.0 (sym b ∙ a.0.0))
  before_once h (Some g) (Some g') a b = ap Some (placed_once g g' (same_Some g.0 g'.0 (sym a.0.0 ∙ b.0.0)) a.1 b.1)

  -- a header that is there, and may not stand before the one that links to it
  pub broken_by : (h : Header) (at : ℕ) (g : Header) → h.previous ≡ Some at → IsHeaderAt revision file at g → (g.commit < h.commit → g.next_store ≤ h.next_store → ⊥) → BreaksLink revision file h at
  broken_by h at g links there not = record {
    links = links;
    broken = λ before here may.
        let same : before ≡ g = header_once at before g here there in
        not (subst (λ (x : Header). x.commit < h.commit) same may.1) (subst (λ (x : Header). x.next_store ≤ h.next_store) same may.2);
  }

pub broken_none : (revision : ℕ) (file : List Block) (h : Header) (at : ℕ) → h.previous ≡ Some at → (IsSealedAt revision file at → ⊥) → BreaksLink revision file h at
broken_none revision file h at links none = record { links = links; broken = λ before here may. none (sealed_header revision file at before here) }

-- a block that isn't read, or has no well-formed header, is the reason
module _ (tells : Bool) (revision : ℕ) (file other : List Block) (at first before after : ℕ) (why : Refusal) (same : IsTrue tells → other ≡ file) (still : before ≡ first) where
  pub reason_last : (left : ℕ) → left ≡ at + 1 → (IsTrue tells → (n : ℕ) → left ≤ n → IsSealedAt revision file n → ⊥)
      → ((why ≡ Refusal.DiskFault) × (risen before ≤ after)) ⊎ ((why ≡ Refusal.Damaged revision at) × (IsTrue tells → IsIll revision other at)) → Reason revision (λ block. IsTrue tells → HasNoLast revision file block) first after why
  reason_last left next none (inl fault) = inl (fault.0, subst (λ (n : ℕ). risen n ≤ after) still fault.1)
  reason_last left next none (inr damaged) = inr (
    at,
    damaged.0,
    λ told. let ill = subst (λ (f : List Block). IsIll revision f at) (same told) (damaged.1 told) in inl (ill.0, ill.1, is_last_of revision file left at next (none told)),
  )

  pub reason_before : (h : Header) → h.previous ≡ Some at → ((why ≡ Refusal.DiskFault) × (risen before ≤ after)) ⊎ ((why ≡ Refusal.Damaged revision at) × (IsTrue tells → IsIll revision other at))
      → Reason revision (λ block. (h.previous ≡ Some block) × (IsTrue tells → BreaksLink revision file h block)) first after why
  reason_before h links (inl fault) = inl (fault.0, subst (λ (n : ℕ). risen n ≤ after) still fault.1)
  reason_before h links (inr damaged) = inr (
    at,
    damaged.0,
    (links, λ told. let ill = subst (λ (f : List Block). IsIll revision f at) (same told) (damaged.1 told) in record { links = links; broken = λ before here may. ill.1 before here }),
  )

-- what a refusal says where something stands, and where a block breaks it
module _ {T : Type 0} (revision before after : ℕ) (Breaks : ℕ → Type 0) (why : Refusal) (result : Result T Refusal) (is : result ≡ Err why) where
  pub refused_never : (x : T) → ((block : ℕ) → Breaks block → ⊥) → Reason revision Breaks before after why → (result ≡ Ok x) ⊎ (result ≡ Err Refusal.DiskFault)
  refused_never x never (inl fault) = inr (is ∙ ap Err fault.0)
  refused_never x never (inr damaged) = absurd (never damaged.0 damaged.2)

  pub refused_by : (at : ℕ) → ((block : ℕ) → Breaks block → block ≡ at) → Reason revision Breaks before after why → (result ≡ Err (Refusal.Damaged revision at)) ⊎ (result ≡ Err Refusal.DiskFault)
  refused_by at same (inl fault) = inr (is ∙ ap Err fault.0)
  refused_by at same (inr damaged) = inl (is ∙ ap Err (damaged.1 ∙ ap (λ (n : ℕ). Refusal.Damaged revision n) (same damaged.0 damaged.2)))
