use Rattle.std.proofs.Common.{◌≡◌, ◌∙◌, ℕ, ap, sym, length, take, map, min}
use Rattle.std.proofs.lemmas.List.{take-map, take_all, take_min}
use Rattle.std.specs.Arc.{arc_value}
use Rattle.block_list.proofs.group.Group.first.Goals as goal

pub returns : goal.returns
returns c =
    let items = c.self.inside.blocks.items in
    let len = c.min-len.result in
    let count : c.len.result ≡ length items = cc in
    let all = take_all c.loop-block.block-index (take len c.deref.result.now) c.loop-block-test.false in
    let shown = ap (take len) c.deref.ensures.value ∙ ap (λ (n : ℕ). take n items) (c.min-len.ensures ∙ ap (min c.args.len) count) ∙ take_min c.args.len items in
    c.loop-block.invariant ∙ ap (map arc_value) (all ∙ shown) ∙ sym (take-map arc_value c.args.len items)
    ∙ ap (take c.args.len) c.self.view_is
