use Rattle.std.proofs.Common.{◌≡◌, List, ap, ◌∙◌, subst}
use Rattle.std.specs.Prelude.{insert, if◌then◌else◌}
use Rattle.std.specs.Global.{Box}
use Rattle.wal_index.specs.declared.by_number.Numbered.{Numbered}
use Rattle.wal_index.specs.Numbers.{number_cmp, number_of, numbers_at, mark_of, marks}
use Rattle.wal_index.specs.Places.{IsAt, IsGap}
use Rattle.wal_index.proofs.Orders.{exact_numbers}
use Rattle.wal_index.proofs.Sorted.{put_over, put_between}
use Rattle.wal_index.proofs.by_number.put_number.Goals as goal

pub returns-in-Ok-clause-put : goal.returns-in-Ok-clause-put
returns-in-Ok-clause-put c =
    let q_is : numbers_at c.deref.result.now.store c.deref-2.result.now.seq c.as_slice-2.result.now ≡ c.args.number.value = ap (λ r. numbers_at r.store c.deref-2.result.now.seq c.as_slice-2.result.now) c.deref.ensures ∙ ap (λ r. numbers_at c.args.number.value.store r.seq c.as_slice-2.result.now) c.deref-2.ensures ∙ ap (numbers_at c.args.number.value.store c.args.number.value.seq) (c.as_slice-2.ensures ∙ ap (λ r. r.key) c.deref-3.ensures) in
    let at : IsAt number_cmp number_of c.args.number.value c.args.numbers.now.items c.in-Ok.at = subst (λ (q : Numbered). IsAt number_cmp number_of q c.args.numbers.now.items c.in-Ok.at) q_is (subst (λ (rows : List (Box Numbered)). IsAt number_cmp number_of (numbers_at c.deref.result.now.store c.deref-2.result.now.seq c.as_slice-2.result.now) rows c.in-Ok.at) c.as_slice.ensures.value c.in-Ok.ensures.at) in
    put_over number_cmp mark_of exact_numbers c.args.number c.args.numbers.now.items c.in-Ok.at at.within at.here at.around.before

pub returns-in-Err-clause-put : goal.returns-in-Err-clause-put
returns-in-Err-clause-put c =
    let q_is : numbers_at c.deref.result.now.store c.deref-2.result.now.seq c.as_slice-2.result.now ≡ c.args.number.value = ap (λ r. numbers_at r.store c.deref-2.result.now.seq c.as_slice-2.result.now) c.deref.ensures ∙ ap (λ r. numbers_at c.args.number.value.store r.seq c.as_slice-2.result.now) c.deref-2.ensures ∙ ap (numbers_at c.args.number.value.store c.args.number.value.seq) (c.as_slice-2.ensures ∙ ap (λ r. r.key) c.deref-3.ensures) in
    let gap : IsGap number_cmp number_of c.args.number.value c.args.numbers.now.items c.in-Err.at = subst (λ (q : Numbered). IsGap number_cmp number_of q c.args.numbers.now.items c.in-Err.at) q_is (subst (λ (rows : List (Box Numbered)). IsGap number_cmp number_of (numbers_at c.deref.result.now.store c.deref-2.result.now.seq c.as_slice-2.result.now) rows c.in-Err.at) c.as_slice.ensures.value c.in-Err.ensures.gap) in
    let rows = c.args.numbers.now.items in
    ap marks (c.insert-room.ensures.items ∙ ap (λ b. if b then insert rows c.in-Err.at c.args.number else rows) (c.insert-room.ensures.succeeds c.requires.room))
    ∙ put_between number_cmp mark_of c.args.number rows c.in-Err.at gap.within gap.around.before gap.around.behind
