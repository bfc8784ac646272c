use Rattle.std.proofs.Common.{◌≡◌, List, ℕ, sym, ap, ◌∙◌}
use Rattle.std.proofs.lemmas.Option.{IfSome_then}
use Rattle.wal_index.specs.Index.{Index, has_number}
use Rattle.wal_index.specs.Merged.{all_pairs}
use Rattle.wal_index.specs.Numbers.{numbers_at, marks, holds}
use Rattle.wal_index.proofs.ByNumber.{none_then}
use Rattle.wal_index.proofs.Marks.{number_told}
use Rattle.wal_index.proofs.TwoLists.{rows_sorted}
use Rattle.wal_index.proofs.index.WalIndex.by_seq.Goals as goal

pub returns : goal.returns
returns c =
    let told : (key : List ℕ) → has_number c.args.self.now.entries c.args.store c.args.seq key ≡ holds (marks c.as_slice.result.now) (numbers_at c.args.store c.args.seq key) = λ key.
    sym (ap (λ (x : Index). has_number x.entries c.args.store c.args.seq key) c.self.view_is)
    ∙ number_told (all_pairs c.self.inside.rows.settled.items c.self.inside.rows.recent.items) (marks c.self.inside.numbers.items) (rows_sorted c.self.inside.rows.settled.items c.self.inside.rows.recent.items c.self.invariant.0) c.self.invariant.5 c.args.store c.args.seq key
    ∙ ap (λ ns. holds (marks ns) (numbers_at c.args.store c.args.seq key)) (sym c.as_slice.ensures.value) in
    record {
      found = IfSome_then c.key_of.result c.key_of.ensures.found (λ key h. told key.now ∙ h);
      absent = none_then c.key_of.result c.key_of.ensures.absent (λ h key. told key ∙ h key);
    }
