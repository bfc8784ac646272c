-- The open block that is padded out, and what is in memory once the header stands behind it.
use Rattle.std.proofs.Common.{◌≡◌, ◌≢◌, ℕ, ◌+◌, ◌^◌, ◌≤◌, false, List, [], length, Option, Some, None, ap, subst, ◌∙◌, arith}
use Rattle.std.specs.Prelude.{MatchOption, ◌||◌, nat_lt}
use Rattle.std.proofs.lemmas.Bool.Decides.{nat_tests}
use Rattle.block_host.specs.Sealed.{IsSealed}
use Rattle.block_host.specs.declared.block.Block.{Block}
use Rattle.doc_stream.specs.OpenBlock.{OpenBlock}
use Rattle.forest_model.specs.declared.stored.Header.{Header}
use Rattle.header_block.specs.Layout.{header_bytes}
use Rattle.file_parts.specs.Held.{Held}
use Rattle.file_core.specs.Updates.{IsOpenBlock, listed}
use Rattle.file_commit.specs.Committing.{header_after, held_after, TellsHeader}

-- what padding tells of the block that comes out of it
abbrev pub Pads : ℕ → OpenBlock → OpenBlock → Option Block → Type 0
Pads revision before after block =
    MatchOption block ((before.bytes ≡ []) × (after ≡ before)) (λ b. (before.bytes ≢ []) × IsSealed revision before.number 1 before.bytes b × (after ≡ record { number = before.number + 1; bytes = [] }))

pub opened : (revision : ℕ) (before after : OpenBlock) (block : Option Block) → Pads revision before after block → IsOpenBlock revision before block
opened revision before after None pads = pads.0
opened revision before after (Some b) pads = (pads.0, pads.1)

pub padded_number : (revision : ℕ) (before after : OpenBlock) (block : Option Block) → Pads revision before after block → after.number ≡ before.number + length (listed block)
padded_number revision before after None pads = omega (arith, ap (λ (t : OpenBlock). t.number) pads.1)
padded_number revision before after (Some b) pads = omega (arith, ap (λ (t : OpenBlock). t.number) pads.2)

few : (block : Option Block) → length (listed block) ≤ 1
few None = omega arith
few (Some b) = omega arith

not_far : (a b : ℕ) → (nat_lt (2 ^ 40) a || nat_lt (2 ^ 40) b) ≡ false → a ≤ 2 ^ 40
not_far a b near = grind (arith, nat_tests)

-- the place behind the open block is that of a file
pub near_end : (revision : ℕ) (before after : OpenBlock) (block : Option Block) (header at : ℕ) → (nat_lt (2 ^ 40) before.number || nat_lt (2 ^ 40) header) ≡ false → Pads revision before after block → at ≡ after.number
    → at ≤ 2 ^ 40 + 1
near_end revision before after block header at near pads is =
    let low = not_far before.number header near in
    let one = few block in
    omega (arith, padded_number revision before after block pads, is)

pub entered : (p q : Held) (h : Header) (at number : ℕ)
    → q ≡ record p { header = h; header_at = at; blocks = at + 1; tail = record { number = at + 1; bytes = [] }; loose = 0; place = p.place + 1; next_commit = p.next_commit + 1 }
    → h ≡ header_after p → at ≡ number → q ≡ held_after p number
entered p q h at number is header_is at_is =
    is ∙ (λ i. record p { header = header_is i; header_at = at_is i; blocks = at_is i + 1; tail = record { number = at_is i + 1; bytes = [] }; loose = 0; place = p.place + 1; next_commit = p.next_commit + 1 })

pub tells_of : (h i : Header) (bytes : List ℕ) → h ≡ i → TellsHeader h bytes → TellsHeader i bytes
tells_of h i bytes is tells = subst (λ (x : Header). TellsHeader x bytes) is tells

pub sealed_of : (revision at number : ℕ) (h i : Header) (block : Block) → at ≡ number → h ≡ i → IsSealed revision at 4 (header_bytes h) block → IsSealed revision number 4 (header_bytes i) block
sealed_of revision at number h i block at_is is sealed =
    subst (λ (x : Header). IsSealed revision number 4 (header_bytes x) block) is (subst (λ (n : ℕ). IsSealed revision n 4 (header_bytes h) block) at_is sealed)
