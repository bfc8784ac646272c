use Rattle.std.proofs.Common.{◌≡◌, ℕ, false, ◌+◌, ◌-◌, ◌<◌, length, ap, ◌∙◌, subst, arith}
use Rattle.std.specs.Option.{option_map}
use Rattle.wal_index.specs.Index.{key_at, key_and_entry, is_past}
use Rattle.wal_index.specs.Rows.{IsBorder}
use Rattle.wal_index.proofs.NextEntry.{down_at, down_none}
use Rattle.wal_index.proofs.nearest.next_down.Goals as goal

pub returns-then-count-eq0 : goal.returns-then-count-eq0
returns-then-count-eq0 c =
    let q = key_at c.args.store c.args.key.now in
    let none : c.border-count.result ≡ 0 = omega arith in
    ap (option_map key_and_entry) (down_none c.args.with q c.args.rows.now c.requires (subst (λ (n : ℕ). IsBorder (is_past c.args.with false q) c.args.rows.now n) none c.border-count.ensures))

pub returns : goal.returns
returns c =
    let q = key_at c.args.store c.args.key.now in
    let n = c.border-count.result - 1 in
    let more : c.border-count.result ≡ n + 1 = omega arith in
    let within : n < length c.args.rows.now = omega (arith, c.border-count.ensures.within) in
    c.row_of_store.ensures ∙ ap (option_map key_and_entry) (down_at c.args.with q c.args.rows.now c.requires n within (subst (λ (k : ℕ). IsBorder (is_past c.args.with false q) c.args.rows.now k) more c.border-count.ensures))
