use Rattle.std.proofs.Common.{◌≡◌, ◌∙◌, sym, ap, arith, take, List, ℕ, true, eqb}
use lib.Pointwise.{pointwise}
use Rattle.block_host.specs.Sealed.{with_checksum, sealed_front}
use Rattle.block_host.proofs.Back.{kind_back, used_back, payload_back, pointwise-same}
use Rattle.block_host.proofs.sealing.unseal.Goals as goal
use Rattle.block_host.proofs.sealing.unseal.Goals.{then-kind-eq0-via-then-kind-eq0, then-kind-eq0-via-else-kind-eq0+then-kind-gt5, then-kind-eq0-via-else-kind-eq0+else-kind-gt5+then-used-gt4064}

pub returns-then-kind-eq0 : goal.returns-then-kind-eq0
returns-then-kind-eq0 c kind payload sealed =
    let tag = c.tag_of-kind.ensures.kind ∙ kind_back c.args.rev c.args.at kind payload c.args.block.now sealed in
    let used = c.tag_of-kind.ensures.used ∙ used_back c.args.rev c.args.at kind payload c.args.block.now sealed in
    let least = sealed.least in
    let greatest = sealed.greatest in
    let fits = sealed.fits in
    elim c.then-kind-eq0.branch [
      | then-kind-eq0-via-then-kind-eq0 w ↦ omega (arith, tag, least, w.if-kind-eq0.true)
      | then-kind-eq0-via-else-kind-eq0+then-kind-gt5 w ↦ omega (arith, tag, greatest, w.if-kind-gt5.true)
      | then-kind-eq0-via-else-kind-eq0+else-kind-gt5+then-used-gt4064 w ↦ omega (arith, used, fits, w.if-used-gt4064.true)
    ]

pub returns-else-eq : goal.returns-else-eq
returns-else-eq c kind payload sealed =
    let tag = c.tag_of-kind.ensures.kind ∙ kind_back c.args.rev c.args.at kind payload c.args.block.now sealed in
    let used = c.tag_of-kind.ensures.used ∙ used_back c.args.rev c.args.at kind payload c.args.block.now sealed in
    let back = ap (λ (n : ℕ). take n c.args.block.now.bytes) used ∙ payload_back c.args.rev c.args.at kind payload c.args.block.now sealed in
    let same : c.seal-again.result.bytes ≡ c.args.block.now.bytes =
    c.seal-again.ensures.bytes ∙ ap (λ (p : List ℕ). with_checksum (sealed_front c.args.rev c.args.at c.tag_of-kind.result.0 p)) back
    ∙ ap (λ (k : ℕ). with_checksum (sealed_front c.args.rev c.args.at k payload)) tag ∙ sym sealed.bytes in
    let tested : pointwise eqb c.seal-again.result.bytes c.args.block.now.bytes ≡ true =
    ap (λ (bytes : List ℕ). pointwise eqb bytes c.args.block.now.bytes) same ∙ pointwise-same c.args.block.now.bytes in
    cc (c.eq.ensures, tested)
