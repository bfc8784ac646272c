use Rattle.std.proofs.Common.{◌∙◌, ap, List}
use Rattle.std.specs.Prelude.{slice_set}
use Rattle.std.specs.Arc.{arc_value}
use Rattle.std.proofs.lemmas.List.{map-set}
use Rattle.block_host.specs.declared.block.Block.{Block}
use Rattle.block_list.proofs.group.Group.replaced.Goals as goal

pub returns : goal.returns
returns c =
    map-set arc_value c.group.inside.blocks.items c.args.at c.in_ok-group-inside.field-0
    ∙ ap (λ (blocks : List Block). slice_set blocks c.args.at (arc_value c.in_ok-group-inside.field-0)) (c.group.view_is ∙ c.in_ok-group.ensures)
    ∙ ap (λ (block : Block). slice_set c.args.self.now c.args.at block) c.in_ok-group-inside.ensures
