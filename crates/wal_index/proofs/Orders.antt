-- The orders of keys and of numbers are total, and tell all apart.
use Rattle.std.proofs.Common.{ℕ, List, ap}
use Rattle.std.specs.Cmp.{IsTotalOrder, nat_cmp_total, on_total, then_total}
use Rattle.std.specs.Cmp.Lexicographic.{slice_cmp, nat_list_cmp_total}
use Rattle.std.specs.Ordering.{nat_cmp, ordering_then}
use Rattle.std.proofs.lemmas.Map.Lookups.{CmpEqualImpliesEq, exact_unsigned, exact_bytes, exact_pairs}
use Rattle.forest_model.specs.Key.{key_cmp}
use Rattle.wal_index.specs.Numbers.{number_cmp}

pub exact_keys : CmpEqualImpliesEq key_cmp
exact_keys a b h =
    ap (λ (p : ℕ × List ℕ). record { store = p.0; key = p.1 }) (exact_pairs nat_cmp (slice_cmp nat_cmp) exact_unsigned exact_bytes (a.store, a.key) (b.store, b.key) h)

pub keys_total : IsTotalOrder key_cmp
keys_total = then_total (on_total (λ k. k.store) nat_cmp_total) (on_total (λ k. k.key) nat_list_cmp_total)

pub exact_numbers : CmpEqualImpliesEq number_cmp
exact_numbers a b h =
    ap (λ (p : ℕ × (ℕ × List ℕ)). record { store = p.0; seq = p.1.0; key = p.1.1 })
    (exact_pairs nat_cmp (λ (x y : ℕ × List ℕ). ordering_then (nat_cmp x.0 y.0) (slice_cmp nat_cmp x.1 y.1)) exact_unsigned (exact_pairs nat_cmp (slice_cmp nat_cmp) exact_unsigned exact_bytes) (a.store, (a.seq, a.key)) (b.store, (b.seq, b.key)) h)

pub numbers_total : IsTotalOrder number_cmp
numbers_total = then_total (on_total (λ n. n.store) nat_cmp_total) (then_total (on_total (λ n. n.seq) nat_cmp_total) (on_total (λ n. n.key) nat_list_cmp_total))
