use Rattle.std.proofs.Common.{◌<◌, sym, ◌∙◌, arith}
use Rattle.host_files.proofs.Naming.{named, not_told_otherwise, not_zero}
use Rattle.host_files.proofs.name.file_of.Goals as goal

pub returns-in-Some-number_of : goal.returns-in-Some-number_of
returns-in-Some-number_of c =
    let above : 0 < c.in-Some-number_of.file = omega (arith, c.if-file-gt0.true) in
    (above, named c.args.name.now c.in-Some.digits.now c.in-Some-number_of.file c.in-Some.ensures (sym c.number_of.ensures ∙ c.in-Some-number_of.is) above)

pub returns-in_default-number_of : goal.returns-in_default-number_of
returns-in_default-number_of c file above below is =
    not_zero c.args.name.now c.in-Some.digits.now c.in-Some-number_of.file file c.in-Some.ensures (sym c.number_of.ensures ∙ c.in-Some-number_of.is) (λ more. omega (arith, c.if-file-gt0.false, more)) above below is

pub returns-in_default-number_of-2 : goal.returns-in_default-number_of-2
returns-in_default-number_of-2 c file above below is =
    not_told_otherwise c.args.name.now c.in-Some.digits.now file c.in-Some.ensures (sym c.number_of.ensures ∙ c.in_default-number_of.is) above below is
