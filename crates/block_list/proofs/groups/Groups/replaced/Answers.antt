use Rattle.std.proofs.Common.{◌≡◌, ◌∙◌, List, ap, subst}
use Rattle.std.specs.Prelude.{IfOk, slice_set}
use Rattle.std.specs.Arc.{arc_value}
use Rattle.std.proofs.lemmas.List.{map-set}
use Rattle.block_host.specs.declared.block.Block.{Block}
use Rattle.block_list.proofs.groups.Groups.replaced.Goals as goal

pub returns : goal.returns
returns c =
    let group = c.in_ok-groups-2.field-0 in
    subst (λ (groups : List (List Block)). IfOk c.listed.result (λ other. other ≡ groups))
    (map-set arc_value c.in_ok-groups.groups.items c.args.at group
    ∙ ap (λ (groups : List (List Block)). slice_set groups c.args.at (arc_value group)) (c.in_ok-groups.ensures ∙ c.in_ok-share.ensures)
    ∙ ap (λ (other : List Block). slice_set c.args.self.now c.args.at other) c.in_ok-groups-2.ensures.ok)
    c.listed.ensures
