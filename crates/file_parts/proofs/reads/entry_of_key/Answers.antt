use Rattle.std.proofs.Common.{true, false, refl, sym, ◌∙◌}
use Rattle.std.specs.Prelude.{is_none}
use Rattle.forest_model.specs.declared.refusal.Refusal.TheVariants.{KeyLength, NoStore, Stopped}
use Rattle.file_parts.specs.Held.{held}
use Rattle.file_parts.specs.Lookup.{numbers_in}
use Rattle.file_parts.proofs.Lookups.{tested, stopped_key, running_key, key_refused, key_living}
use Rattle.file_parts.proofs.reads.entry_of_key.Goals as goal

pub returns-in-Some : goal.returns-in-Some
returns-in-Some g c =
    let p = held c.args.parts.now in
    let at = c.args.at.now in
    let key = c.args.key.now in
    sym (key_refused p at key (Stopped c.in-Some.faults) (stopped_key p at key c.in-Some.faults c.in-Some.is))

pub returns-then-is_wrong_key : goal.returns-then-is_wrong_key
returns-then-is_wrong_key g c =
    let p = held c.args.parts.now in
    let at = c.args.at.now in
    let key = c.args.key.now in
    sym (key_refused p at key KeyLength (running_key p at key true (is_none (numbers_in p at.store)) c.in_default.is (sym c.is_wrong_key.ensures ∙ c.if-is_wrong_key.true) refl))

pub returns-then-is_none : goal.returns-then-is_none
returns-then-is_none g c =
    let p = held c.args.parts.now in
    let at = c.args.at.now in
    let key = c.args.key.now in
    let none = tested p at c.numbers.result c.is_none.result true c.numbers.ensures c.is_none.ensures c.if-is_none.true in
    sym (key_refused p at key NoStore (running_key p at key false true c.in_default.is (sym c.is_wrong_key.ensures ∙ c.if-is_wrong_key.false) none))

pub returns : goal.returns
returns g c =
    let p = held c.args.parts.now in
    let at = c.args.at.now in
    let key = c.args.key.now in
    let there = tested p at c.numbers.result c.is_none.result false c.numbers.ensures c.is_none.ensures c.if-is_none.false in
    let none = running_key p at key false false c.in_default.is (sym c.is_wrong_key.ensures ∙ c.if-is_wrong_key.false) there in
    key_living p at key c.get.result c.living.result none c.get.ensures c.living.ensures
