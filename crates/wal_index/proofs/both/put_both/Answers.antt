use Rattle.std.proofs.Common.{List, T, ap, ◌∙◌, sym, subst}
use Rattle.std.specs.FinMap as finite
use Rattle.wal_index.specs.declared.by_number.Numbered.{Numbered}
use Rattle.wal_index.specs.Merged.{all_pairs}
use Rattle.wal_index.specs.Numbers.{number_cmp, marks}
use Rattle.wal_index.proofs.Marks.{older_sorted, number_sorted, both_agree}
use Rattle.wal_index.proofs.both.put_both.Goals as goal

pub put_number-requires-clause-sorted : goal.put_number-requires-clause-sorted
put_number-requires-clause-sorted c =
    subst (λ (ms : List (Numbered × Unit {0})). T (finite.is_sorted number_cmp ms)) (sym c.remove_older.ensures.removed)
    (older_sorted c.put-older.result c.deref.result.now.store c.as_slice.result.now (marks c.args.numbers.now.items) c.requires.numbers_sorted)

pub returns-clause-numbers_sorted : goal.returns-clause-numbers_sorted
returns-clause-numbers_sorted c =
    number_sorted (marks c.remove_older.new.numbers.items) (marks c.put_number.new.numbers.items) c.args.number.value
    (subst (λ (ms : List (Numbered × Unit {0})). T (finite.is_sorted number_cmp ms)) (sym c.remove_older.ensures.removed)
    (older_sorted c.put-older.result c.deref.result.now.store c.as_slice.result.now (marks c.args.numbers.now.items) c.requires.numbers_sorted))
    c.put_number.ensures.put

pub returns-clause-agree : goal.returns-clause-agree
returns-clause-agree c =
    both_agree (all_pairs c.args.rows.now.settled.items c.args.rows.now.recent.items) (all_pairs c.put-older.new.self.settled.items c.put-older.new.self.recent.items) (marks c.args.numbers.now.items) (marks c.remove_older.new.numbers.items) (marks c.put_number.new.numbers.items) c.args.row.value c.args.number.value
    c.put-older.result c.deref.result.now.store c.as_slice.result.now c.requires.agree c.requires.same
    (ap (λ n. n.store) c.deref.ensures) (c.as_slice.ensures ∙ ap (λ n. n.key) c.deref-2.ensures)
    c.put-older.ensures.older
    c.remove_older.ensures.removed c.put-older.ensures.put c.put_number.ensures.put
