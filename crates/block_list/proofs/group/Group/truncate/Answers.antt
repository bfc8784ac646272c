use Rattle.std.proofs.Common.{◌∙◌, ap, sym, take, map}
use Rattle.std.proofs.lemmas.List.{take-map}
use Rattle.std.specs.Arc.{arc_value}
use Rattle.block_list.proofs.group.Group.truncate.Goals as goal

pub returns : goal.returns
returns c =
    ap (map arc_value) c.truncate.ensures.items ∙ sym (take-map arc_value c.args.len c.self.inside.blocks.items)
    ∙ ap (take c.args.len) c.self.view_is
