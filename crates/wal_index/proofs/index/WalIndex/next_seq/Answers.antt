use Rattle.std.proofs.Common.{◌≡◌, ℕ, List, sym, ap, ◌∙◌}
use Rattle.std.proofs.lemmas.Option.{IfSome_then}
use Rattle.wal_index.specs.Index.{Index, has_number}
use Rattle.wal_index.specs.Merged.{all_pairs}
use Rattle.wal_index.specs.Numbers.{numbers_at, marks, holds}
use Rattle.wal_index.proofs.ByNumber.{none_then}
use Rattle.wal_index.proofs.Marks.{number_told}
use Rattle.wal_index.proofs.NextNumber.{nearest_told}
use Rattle.wal_index.proofs.TwoLists.{rows_sorted}
use Rattle.wal_index.proofs.index.WalIndex.next_seq.Goals as goal

pub returns : goal.returns
returns c =
    let told : (n : ℕ) (key : List ℕ) → has_number c.args.self.now.entries c.args.store n key ≡ holds (marks c.as_slice.result.now) (numbers_at c.args.store n key) = λ n key.
    sym (ap (λ (x : Index). has_number x.entries c.args.store n key) c.self.view_is)
    ∙ number_told (all_pairs c.self.inside.rows.settled.items c.self.inside.rows.recent.items) (marks c.self.inside.numbers.items) (rows_sorted c.self.inside.rows.settled.items c.self.inside.rows.recent.items c.self.invariant.0) c.self.invariant.5 c.args.store n key
    ∙ ap (λ ns. holds (marks ns) (numbers_at c.args.store n key)) (sym c.as_slice.ensures.value) in
    record {
      found = IfSome_then c.next_number.result c.next_number.ensures.found (λ r mark. nearest_told c.args.self.now.entries (marks c.as_slice.result.now) c.args.with c.args.up c.args.store c.args.seq r.0 r.1.now told mark);
      absent = none_then c.next_number.result c.next_number.ensures.absent (λ h n key has. h n key (sym (told n key) ∙ has));
    }
