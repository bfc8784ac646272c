use Rattle.std.proofs.Common.{rules, arith, ap, ◌∙◌, ◌≤◌, List, length}
use Rattle.std.proofs.lemmas.Bool.{ltb-false}
use Rattle.node_page.specs.Nodes.{Entry}
use Rattle.btree_cow.proofs.WithoutEntries.{is_other, filter_whole, retained}
use Rattle.btree_cow.proofs.removing.take_entry.Goals as goal

pub returns-clause-left : goal.returns-clause-left
returns-clause-left c = retained _ (is_other c.args.chunk) _ (λ x b f' y k. search rules) _ _ c.retain.ensures.filtered

pub returns-clause-none : goal.returns-clause-none
returns-clause-none c = λ same.
    let left = retained _ (is_other c.args.chunk) _ (λ x b f' y k. search rules) _ _ c.retain.ensures.filtered in
    let long : c.len-before.result ≤ c.len.result = ltb-false c.len.result c.len-before.result same in
    left ∙ filter_whole (is_other c.args.chunk) c.args.entries.now.items (omega (arith, long, c.len.ensures.value, c.len-before.ensures.value, ap (λ (l : List Entry). length l) left))
