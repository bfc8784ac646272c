use Rattle.std.proofs.Common.{◌≡◌, ◌/◌, ◌%◌, ◌*◌, ◌-◌, ◌++◌, ◌∙◌, ℕ, List, ap, sym, subst, arith, length, length-set}
use Rattle.std.specs.Prelude.{slice_set}
use Rattle.std.specs.Arc.{arc_value}
use Rattle.block_host.specs.declared.block.Block.{Block}
use Rattle.block_list.specs.Grouped.{joined, AllWhole}
use Rattle.block_list.proofs.Grouped.{AllWhole-set, whole_at, none_left, set_whole, set_rest}
use Rattle.block_list.proofs.blocks.Blocks.replaced.Goals as goal

pub invariant_of-result : goal.invariant_of-result
invariant_of-result c =
    let groups = c.self.inside.whole in
    let n = c.args.at / 256 in
    let had = whole_at groups n c.in-Some.group.now c.self.invariant.whole (sym c.in-Some.ensures) in
    let has : length c.in_ok-replaced-in-Some.field-0 ≡ 256 = omega (arith, had, ap length c.in_ok-replaced-in-Some.ensures, length-set c.in-Some.group.now (c.args.at % 256) (arc_value c.args.block.now)) in
    record {
      whole = subst AllWhole (sym c.in_ok-replaced-in-Some-2.ensures) (AllWhole-set groups n c.in_ok-replaced-in-Some.field-0 c.self.invariant.whole has);
      few = omega (arith, ap length c.in_ok-replaced-in-Some-2.ensures, length-set groups n c.in_ok-replaced-in-Some.field-0);
      fits = omega (arith, ap length c.in_ok-share-in-Some.ensures);
    }

pub overflow_sub-at : goal.overflow_sub-at
overflow_sub-at c = omega (arith, none_left c.self.inside.whole c.args.at (sym c.in-None.ensures))

pub returns-in_ok-share-in-Some : goal.returns-in_ok-share-in-Some
returns-in_ok-share-in-Some c =
    let parts = c.self.inside in
    let block = arc_value c.args.block.now in
    ap (λ (groups : List (List Block)). joined groups ++ c.in_ok-share-in-Some.field-0) c.in_ok-replaced-in-Some-2.ensures
    ∙ ap (λ (group : List Block). joined (slice_set parts.whole (c.args.at / 256) group) ++ c.in_ok-share-in-Some.field-0) c.in_ok-replaced-in-Some.ensures
    ∙ ap (λ (blocks : List Block). joined (slice_set parts.whole (c.args.at / 256) (slice_set c.in-Some.group.now (c.args.at % 256) block)) ++ blocks) c.in_ok-share-in-Some.ensures
    ∙ sym (set_whole parts.whole parts.last c.self.invariant.whole c.args.at c.in-Some.group.now block (sym c.in-Some.ensures))
    ∙ ap (λ (blocks : List Block). slice_set blocks c.args.at block) c.self.view_is

pub returns-in_ok-replaced-in-None : goal.returns-in_ok-replaced-in-None
returns-in_ok-replaced-in-None c =
    let parts = c.self.inside in
    let block = arc_value c.args.block.now in
    ap (λ (groups : List (List Block)). joined groups ++ c.in_ok-replaced-in-None.field-0) c.in_ok-share-in-None.ensures
    ∙ ap (λ (blocks : List Block). joined parts.whole ++ blocks) (c.in_ok-replaced-in-None.ensures ∙ ap (λ (n : ℕ). slice_set parts.last (c.args.at - n * 256) block) c.len.ensures)
    ∙ sym (set_rest parts.whole parts.last c.self.invariant.whole c.args.at block (sym c.in-None.ensures))
    ∙ ap (λ (blocks : List Block). slice_set blocks c.args.at block) c.self.view_is
