use Rattle.std.proofs.Common.{◌≡◌, ℕ, ◌+◌, ◌-◌, subst, arith}
use Rattle.std.proofs.lemmas.Option.{IfSome_then}
use Rattle.wal_index.specs.Numbers.{IsNumberBorder}
use Rattle.wal_index.proofs.ByNumber.{none_then}
use Rattle.wal_index.proofs.NextNumber.{down_found, down_absent, down_none}
use Rattle.wal_index.proofs.nearest_number.next_number_down.Goals as goal

pub returns-then-count-eq0-clause-absent : goal.returns-then-count-eq0-clause-absent
returns-then-count-eq0-clause-absent c =
    let none : c.border-count.result ≡ 0 = omega arith in
    down_none c.args.numbers.now c.requires c.args.with c.args.store c.args.seq (subst (λ (n : ℕ). IsNumberBorder c.args.with c.args.store c.args.seq c.args.numbers.now n) none c.border-count.ensures)

pub returns-clause-found : goal.returns-clause-found
returns-clause-found c =
    let n : ℕ = c.border-count.result - 1 in
    let more : c.border-count.result ≡ n + 1 = omega arith in
    let border = subst (λ (k : ℕ). IsNumberBorder c.args.with c.args.store c.args.seq c.args.numbers.now k) more c.border-count.ensures in
    IfSome_then c.number_of_store.result c.number_of_store.ensures.found (λ r at. down_found c.args.numbers.now c.requires c.args.with c.args.store c.args.seq n border r.0 r.1.now at)

pub returns-clause-absent : goal.returns-clause-absent
returns-clause-absent c =
    let n : ℕ = c.border-count.result - 1 in
    let more : c.border-count.result ≡ n + 1 = omega arith in
    let border = subst (λ (k : ℕ). IsNumberBorder c.args.with c.args.store c.args.seq c.args.numbers.now k) more c.border-count.ensures in
    none_then c.number_of_store.result c.number_of_store.ensures.absent (λ apart. down_absent c.args.numbers.now c.requires c.args.with c.args.store c.args.seq n border apart)
