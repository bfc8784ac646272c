use Rattle.std.proofs.Common.{◌≡◌, ◌+◌, ◌*◌, drop, ap, ◌∙◌, ℕ}
use Rattle.node_page.specs.Reading.{long_in}
use Rattle.node_page.proofs.Rising.{first_chunk, next_chunk, no_rise, all_rise}
use Rattle.node_page.proofs.node.are_rising.Goals as goal

pub loop-n-init : goal.loop-n-init
loop-n-init c = first_chunk c.args.count c.args.page.now.bytes c.long_at-last.result c.requires.some c.long_at-last.ensures

pub returns-then-chunk-last : goal.returns-then-chunk-last
returns-then-chunk-last c =
    let chunk : c.long_at-chunk.result ≡ long_in (drop (16 + 16 * c.loop-n.n) c.args.page.now.bytes) =
    c.long_at-chunk.ensures ∙ ap (λ (k : ℕ). long_in (drop (16 + 16 * k) c.args.page.now.bytes)) c.from.ensures in
    no_rise c.args.count c.args.page.now.bytes c.loop-n.n c.loop-n.last c.long_at-chunk.result c.loop-n.invariant c.loop-n-test.true chunk c.if-chunk-last.true

pub loop-n-preserved : goal.loop-n-preserved
loop-n-preserved c =
    let chunk : c.long_at-chunk.result ≡ long_in (drop (16 + 16 * c.loop-n.n) c.args.page.now.bytes) =
    c.long_at-chunk.ensures ∙ ap (λ (k : ℕ). long_in (drop (16 + 16 * k) c.args.page.now.bytes)) c.from.ensures in
    next_chunk c.args.count c.args.page.now.bytes c.loop-n.n c.loop-n.last c.long_at-chunk.result c.loop-n.invariant c.loop-n-test.true chunk c.if-chunk-last.false

pub returns : goal.returns
returns c = all_rise c.args.count c.args.page.now.bytes c.loop-n.n c.loop-n.last c.loop-n.invariant c.loop-n-test.false
