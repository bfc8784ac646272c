use Rattle.std.proofs.Common.{◌-◌, ◌*◌, ◌∙◌, ℕ, List, ap, sym}
use Rattle.std.specs.Prelude.{slice_get}
use Rattle.block_host.specs.declared.block.Block.{Block}
use Rattle.block_list.proofs.Grouped.{get_whole, get_rest}
use Rattle.block_list.proofs.blocks.Blocks.get.Goals as goal

pub returns-in-Some : goal.returns-in-Some
returns-in-Some c =
    let parts = c.self.inside in
    c.get-in-Some.ensures ∙ sym (get_whole parts.whole parts.last c.self.invariant.whole c.args.at c.in-Some.group.now (sym c.in-Some.ensures))
    ∙ ap (λ (blocks : List Block). slice_get blocks c.args.at) c.self.view_is

pub returns-in-None : goal.returns-in-None
returns-in-None c =
    let parts = c.self.inside in
    c.get-in-None.ensures ∙ ap (λ (n : ℕ). slice_get parts.last (c.args.at - n * 256)) c.len.ensures
    ∙ sym (get_rest parts.whole parts.last c.self.invariant.whole c.args.at (sym c.in-None.ensures))
    ∙ ap (λ (blocks : List Block). slice_get blocks c.args.at) c.self.view_is
