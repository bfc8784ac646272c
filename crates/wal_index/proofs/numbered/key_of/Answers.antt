use Rattle.std.proofs.Common.{◌≤◌, ◌<◌, length, sym, ap, ◌∙◌, arith}
use Rattle.std.proofs.lemmas.Bool.{ltb-true, ltb-false}
use Rattle.std.proofs.lemmas.Option.{IfSome_then}
use Rattle.std.specs.Global.{Box}
use Rattle.wal_index.specs.declared.by_number.Numbered.{Numbered}
use Rattle.wal_index.specs.Numbers.{marks, holds}
use Rattle.wal_index.proofs.ByNumber.{held_at, absent_from, same_at, none_then}
use Rattle.wal_index.proofs.numbered.key_of.Goals as goal

pub returns-in-None-clause-absent : goal.returns-in-None-clause-absent
returns-in-None-clause-absent c =
    let past : length c.args.numbers.now ≤ c.start_of-at.result = ltb-false c.start_of-at.result (length c.args.numbers.now) (sym c.in-None.ensures.lookup.0) in
    absent_from c.args.numbers.now c.requires c.args.store c.args.seq c.start_of-at.result c.start_of-at.ensures (λ d m s n. absurd (omega arith))

pub returns-in-Some-clause-found : goal.returns-in-Some-clause-found
returns-in-Some-clause-found c =
    let within : c.start_of-at.result < length c.args.numbers.now = ltb-true c.start_of-at.result (length c.args.numbers.now) (sym c.in-Some.ensures.lookup.0) in
    IfSome_then c.key_if.result c.key_if.ensures.found (λ key is. ap (λ (n : Numbered). holds (marks c.args.numbers.now) n) (sym is ∙ c.deref.ensures) ∙ held_at c.args.numbers.now c.requires c.start_of-at.result c.in-Some.number.now within c.in-Some.ensures.lookup.1)

pub returns-in-Some-clause-absent : goal.returns-in-Some-clause-absent
returns-in-Some-clause-absent c =
    let number_is = c.in-Some.ensures.lookup.1 in
    none_then c.key_if.result c.key_if.ensures.absent (λ other. absent_from c.args.numbers.now c.requires c.args.store c.args.seq c.start_of-at.result c.start_of-at.ensures (λ d m s n.
    let there = same_at c.args.numbers.now c.start_of-at.result d c.in-Some.number.now m ∙ sym number_is in
    other (ap (λ (v : Numbered). v.store) c.deref.ensures ∙ sym (ap (λ (b : Box Numbered). b.value.store) there) ∙ s) (ap (λ (v : Numbered). v.seq) c.deref.ensures ∙ sym (ap (λ (b : Box Numbered). b.value.seq) there) ∙ n)))
