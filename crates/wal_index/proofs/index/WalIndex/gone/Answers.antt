use Rattle.std.proofs.Common.{false, List, [], ◌∷◌, ◌++◌, ℕ, ap, sym, ◌∙◌, arith}
use Rattle.std.specs.Prelude.{◌==◌, not, if◌then◌else◌}
use Rattle.std.specs.FinMap as finite
use Rattle.wal_index.specs.Index.{Index, Map, without_store}
use Rattle.wal_index.specs.Merged.{all_pairs}
use Rattle.wal_index.specs.Numbers.{marks, holds, has}
use Rattle.wal_index.proofs.Marks.{marks_sorted, agree_without}
use Rattle.wal_index.proofs.Maps.{without_map}
use Rattle.wal_index.proofs.TwoLists.{rows_sorted}
use Rattle.wal_index.proofs.index.WalIndex.gone.Goals as goal

pub invariant_of-self : goal.invariant_of-self
invariant_of-self c = (
  c.remove_store.ensures.rows,
  omega (arith, c.remove_store.ensures.capacity, c.remove_store.ensures.len, c.self.invariant.1),
  λ wrong. cc,
  marks_sorted (marks c.self.inside.numbers.items) (marks c.remove_numbers_of.new.numbers.items) (λ n. not (n.store == c.args.store)) c.self.invariant.3 c.remove_numbers_of.ensures.removed,
  omega (arith, c.remove_numbers_of.ensures.capacity, c.remove_numbers_of.ensures.len, c.self.invariant.4),
  λ n. ap (λ ms. holds ms n) c.remove_numbers_of.ensures.removed ∙ agree_without (all_pairs c.self.inside.rows.settled.items c.self.inside.rows.recent.items) (marks c.self.inside.numbers.items) c.args.store c.self.invariant.5 n ∙ ap (λ es. has es n) (sym c.remove_store.ensures.removed),
)

pub returns : goal.returns
returns c =
    let es = all_pairs c.self.inside.rows.settled.items c.self.inside.rows.recent.items in
    let left = all_pairs c.remove_store.new.self.settled.items c.remove_store.new.self.recent.items in
    let old = c.self.inside.gone.items in
    let may = c.push-room.ensures.succeeds (c.self.invariant.2 (ap (λ (x : Index). x.may_go) c.self.view_is ∙ c.requires)) in
    let with_map : Map → Index = λ m. record { entries = m; gone = c.push-room.new.self.items; room = c.self.inside.room; may_go = false } in
    let with_gone : List ℕ → Index = λ gone. record { entries = finite.retain_keys (finite.from_sorted es) (λ k. not (k.store == c.args.store)); gone = gone; room = c.self.inside.room; may_go = false } in
    ap with_map (without_map es left (λ k. not (k.store == c.args.store)) (rows_sorted c.self.inside.rows.settled.items c.self.inside.rows.recent.items c.self.invariant.0) c.remove_store.ensures.removed)
    ∙ ap with_gone (c.push-room.ensures.items ∙ ap (λ b. if b then old ++ c.args.store ∷ [] else old) may)
    ∙ ap (λ (x : Index). without_store x c.args.store) c.self.view_is
