use Rattle.std.proofs.Common.{List, ap, ◌∙◌, subst}
use Rattle.std.specs.Global.{Box}
use Rattle.wal_index.specs.declared.by_number.Numbered.{Numbered}
use Rattle.wal_index.specs.Numbers.{number_cmp, number_of, numbers_at, mark_of, marks}
use Rattle.wal_index.specs.Places.{IsAt, IsGap}
use Rattle.wal_index.proofs.Sorted.{removed_at, kept_between}
use Rattle.wal_index.proofs.by_number.remove_number.Goals as goal

pub returns-in-Ok-clause-removed : goal.returns-in-Ok-clause-removed
returns-in-Ok-clause-removed c =
    let q = numbers_at c.args.store c.args.seq c.args.key.now in
    let at : IsAt number_cmp number_of q c.args.numbers.now.items c.in-Ok.at = subst (λ (ns : List (Box Numbered)). IsAt number_cmp number_of q ns c.in-Ok.at) c.as_slice.ensures.value c.in-Ok.ensures.at in
    ap marks c.remove-older.ensures.items ∙ removed_at number_cmp mark_of q c.args.numbers.now.items c.in-Ok.at at.within at.here at.around.before at.around.behind

pub returns-in-Err-clause-removed : goal.returns-in-Err-clause-removed
returns-in-Err-clause-removed c =
    let q = numbers_at c.args.store c.args.seq c.args.key.now in
    let gap : IsGap number_cmp number_of q c.args.numbers.now.items c.in-Err.field-0 = subst (λ (ns : List (Box Numbered)). IsGap number_cmp number_of q ns c.in-Err.field-0) c.as_slice.ensures.value c.in-Err.ensures.gap in
    kept_between number_cmp mark_of q c.args.numbers.now.items c.in-Err.field-0 gap.around.before gap.around.behind
