use Rattle.std.proofs.Common.{◌+◌, ◌*◌, ap, ℕ}
use Rattle.node_page.proofs.StemParts.{chunk_read}
use Rattle.node_page.proofs.stem.skipped.Goals as goal

pub returns : goal.returns
returns c root chunks is within =
    chunk_read c.args.page.now root chunks c.args.n (16 + 8 * c.from.result) c.long_at.result is within (ap (λ (k : ℕ). 16 + 8 * k) c.from.ensures) c.long_at.ensures
