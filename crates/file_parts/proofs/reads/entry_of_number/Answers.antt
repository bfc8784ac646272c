use Rattle.std.proofs.Common.{true, false}
use Rattle.forest_model.specs.declared.refusal.Refusal.TheVariants.{NoStore, Stopped}
use Rattle.file_parts.specs.Held.{held}
use Rattle.file_parts.proofs.Lookups.{tested, stopped_store, running_store, number_refused, number_absent, number_living}
use Rattle.file_parts.proofs.reads.entry_of_number.Goals as goal

pub returns-in-Some : goal.returns-in-Some
returns-in-Some g c =
    let p = held c.args.parts.now in
    let at = c.args.at.now in
    number_refused p at c.args.seq (Stopped c.in-Some.faults) (stopped_store p at c.in-Some.faults c.in-Some.is)

pub returns-then-is_none : goal.returns-then-is_none
returns-then-is_none g c =
    let p = held c.args.parts.now in
    let at = c.args.at.now in
    let none = tested p at c.numbers.result c.is_none.result true c.numbers.ensures c.is_none.ensures c.if-is_none.true in
    number_refused p at c.args.seq NoStore (running_store p at true c.in_default.is none)

pub returns-in-Some-by_seq : goal.returns-in-Some-by_seq
returns-in-Some-by_seq g c =
    let p = held c.args.parts.now in
    let at = c.args.at.now in
    let there = tested p at c.numbers.result c.is_none.result false c.numbers.ensures c.is_none.ensures c.if-is_none.false in
    number_living p at c.args.seq c.in-Some-by_seq.key.now c.get.result c.living.result c.in-Some-by_seq.ensures.found (running_store p at false c.in_default.is there) c.get.ensures c.living.ensures

pub returns-in-None : goal.returns-in-None
returns-in-None g c =
    let p = held c.args.parts.now in
    let at = c.args.at.now in
    let there = tested p at c.numbers.result c.is_none.result false c.numbers.ensures c.is_none.ensures c.if-is_none.false in
    number_absent p at c.args.seq (running_store p at false c.in_default.is there) c.in-None.ensures.absent
