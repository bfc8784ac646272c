use Rattle.std.proofs.Common.{◌∙◌, ap, rules}
use Rattle.std.specs.Prelude.{unwrap_or}
use Rattle.std.specs.Ordering.{nat_cmp}
use Rattle.std.specs.Map.{lookup}
use Rattle.std.specs.BTreeMap.{is_at}
use Rattle.std.proofs.lemmas.Map.Made.{map_same_pairs, lookup-map_values}
use Rattle.host_memory.specs.Pending.{no_file}
use Rattle.host_memory.proofs.Picks.{after_crash, crash-found}
use Rattle.host_memory.proofs.state.State.crash.Goals as goal

pub returns-clause-files : goal.returns-clause-files
returns-clause-files c file =
    let before = c.args.self.now.files.entries in
    let entries = map_same_pairs _ (after_crash c.args.pick) _ (λ k v b w f' t. search rules) before c.retain.new.self.entries c.retain.ensures.filtered in
    ap (λ es. unwrap_or (lookup (is_at (nat_cmp file)) es) no_file) entries
    ∙ ap (λ found. unwrap_or found no_file) (lookup-map_values (after_crash c.args.pick) (is_at (nat_cmp file)) before)
    ∙ crash-found c.args.pick (lookup (is_at (nat_cmp file)) before)
