use Rattle.std.proofs.Common.{◌≡◌, ◌+◌, ◌-◌, [], ◌∷◌, ◌++◌, ◌∙◌, ℕ, List, ap, arith, length, replicate}
use Rattle.std.specs.Arc.{arc_value}
use Rattle.std.proofs.lemmas.List.{append_assoc, replicate-append-replicate}
use Rattle.block_host.specs.declared.block.Block.{Block}
use Rattle.block_list.proofs.blocks.Blocks.padded.Goals as goal

pub returns : goal.returns
returns c =
    let count : c.loop.counter - length c.args.self.now ≡ c.args.len - length c.args.self.now = omega arith in
    c.loop.invariant.2 ∙ ap (λ (n : ℕ). c.args.self.now ++ replicate n (arc_value c.args.block.now)) count

pub loop-preserved : goal.loop-preserved
loop-preserved c =
    let len = length c.args.self.now in
    let block = arc_value c.args.block.now in
    let count : c.loop.counter - len + 1 ≡ c.loop.counter + 1 - len = omega arith in (
      omega arith,
      omega arith,
      c.in_ok-blocks-2.ensures ∙ ap (λ (blocks : List Block). blocks ++ arc_value c.in_ok-try_clone.field-0 ∷ []) c.loop.invariant.2
          ∙ ap (λ (other : Block). c.args.self.now ++ replicate (c.loop.counter - len) block ++ other ∷ []) c.in_ok-try_clone.ensures
          ∙ append_assoc c.args.self.now (replicate (c.loop.counter - len) block) (block ∷ [])
          ∙ ap (λ (blocks : List Block). c.args.self.now ++ blocks) (replicate-append-replicate (c.loop.counter - len) 1 block ∙ ap (λ (n : ℕ). replicate n block) count),
    )
