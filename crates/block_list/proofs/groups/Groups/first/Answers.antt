use Rattle.std.proofs.Common.{◌≡◌, ◌∙◌, List, ap, sym, subst, take, map}
use Rattle.std.specs.Prelude.{IfOk}
use Rattle.std.specs.Arc.{arc_value}
use Rattle.std.proofs.lemmas.List.{take-map}
use Rattle.block_host.specs.declared.block.Block.{Block}
use Rattle.block_list.proofs.groups.Groups.first.Goals as goal

pub returns : goal.returns
returns c =
    let len = c.args.len in
    subst (λ (groups : List (List Block)). IfOk c.listed.result (λ other. other ≡ groups))
    (ap (map arc_value) c.truncate.ensures.items ∙ sym (take-map arc_value len c.in_ok-groups.groups.items) ∙ ap (take len) (c.in_ok-groups.ensures ∙ c.in_ok-share.ensures))
    c.listed.ensures
