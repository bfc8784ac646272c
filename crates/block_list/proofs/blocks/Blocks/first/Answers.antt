use Rattle.std.proofs.Common.{◌/◌, ◌%◌, ◌*◌, ◌-◌, ◌++◌, ◌∙◌, ℕ, List, ap, sym, subst, arith, length, take}
use Rattle.std.proofs.lemmas.List.{length-take}
use Rattle.block_host.specs.declared.block.Block.{Block}
use Rattle.block_list.specs.Grouped.{joined, AllWhole}
use Rattle.block_list.proofs.Grouped.{AllWhole-take, none_left, take_whole, take_rest}
use Rattle.block_list.proofs.blocks.Blocks.first.Goals as goal

pub invariant_of-result : goal.invariant_of-result
invariant_of-result c =
    let groups = c.self.inside.whole in
    let n = c.args.len / 256 in
    record {
      whole = subst AllWhole (sym c.in_ok-first-in-Some.ensures) (AllWhole-take n groups c.self.invariant.whole);
      few = omega (arith, ap length c.in_ok-first-in-Some.ensures, length-take n groups);
      fits = omega (arith, ap length c.in_ok-first-in-Some-2.ensures, length-take (c.args.len % 256) c.in-Some.group.now);
    }

pub overflow_sub-len : goal.overflow_sub-len
overflow_sub-len c = omega (arith, none_left c.self.inside.whole c.args.len (sym c.in-None.ensures))

pub returns-in_ok-first-in-Some-2 : goal.returns-in_ok-first-in-Some-2
returns-in_ok-first-in-Some-2 c =
    let parts = c.self.inside in
    ap (λ (groups : List (List Block)). joined groups ++ c.in_ok-first-in-Some-2.field-0) c.in_ok-first-in-Some.ensures
    ∙ ap (λ (blocks : List Block). joined (take (c.args.len / 256) parts.whole) ++ blocks) c.in_ok-first-in-Some-2.ensures
    ∙ sym (take_whole parts.whole parts.last c.self.invariant.whole c.args.len c.in-Some.group.now (sym c.in-Some.ensures))
    ∙ ap (take c.args.len) c.self.view_is

pub returns-in_ok-first-in-None : goal.returns-in_ok-first-in-None
returns-in_ok-first-in-None c =
    let parts = c.self.inside in
    ap (λ (groups : List (List Block)). joined groups ++ c.in_ok-first-in-None.field-0) c.in_ok-share-in-None.ensures
    ∙ ap (λ (blocks : List Block). joined parts.whole ++ blocks) (c.in_ok-first-in-None.ensures ∙ ap (λ (n : ℕ). take (c.args.len - n * 256) parts.last) c.len.ensures)
    ∙ sym (take_rest parts.whole parts.last c.self.invariant.whole c.args.len (sym c.in-None.ensures))
    ∙ ap (take c.args.len) c.self.view_is
