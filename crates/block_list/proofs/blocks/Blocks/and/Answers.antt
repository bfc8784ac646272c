use Rattle.std.proofs.Common.{◌≡◌, ◌∙◌, ◌++◌, [], ◌∷◌, List, ap, sym, subst, arith, length}
use Rattle.std.specs.Arc.{arc_value}
use Rattle.block_host.specs.declared.block.Block.{Block}
use Rattle.block_list.specs.Grouped.{joined, AllWhole}
use Rattle.block_list.proofs.Grouped.{joined-push, AllWhole-push}
use Rattle.block_list.proofs.blocks.Blocks.and.Goals as goal

pub invariant_of-result-2 : goal.invariant_of-result-2
invariant_of-result-2 c =
    let parts = c.self.inside in
    let full : length parts.last ≡ 256 = omega arith in
    let last : c.push-2.new.self ≡ arc_value c.args.block ∷ [] = c.in_ok-push-2.ensures.ok ∙ ap (λ (blocks : List Block). blocks ++ arc_value c.args.block ∷ []) c.new-last.ensures in
    record {
      whole = subst AllWhole (sym c.in_ok-whole.ensures.added) (AllWhole-push parts.whole parts.last c.self.invariant.whole full);
      few = c.in_ok-whole.ensures.few;
      fits = omega (arith, ap length last);
    }

pub returns : goal.returns
returns c =
    let parts = c.self.inside in
    let block = arc_value c.args.block in
    let last = c.in_ok-push-2.ensures.ok ∙ ap (λ (blocks : List Block). blocks ++ block ∷ []) c.new-last.ensures in
    ap (λ (groups : List (List Block)). joined groups ++ c.push-2.new.self) c.in_ok-whole.ensures.added
    ∙ ap (λ (blocks : List Block). blocks ++ c.push-2.new.self) (joined-push parts.whole parts.last)
    ∙ ap (λ (blocks : List Block). joined parts.whole ++ parts.last ++ blocks) last
    ∙ ap (λ (blocks : List Block). blocks ++ block ∷ []) c.self.view_is
