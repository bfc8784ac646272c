use Rattle.std.proofs.Common.{refl}
use Rattle.file_parts.proofs.Finds.{same_found}
use Rattle.file_parts.proofs.reads.find_record.Goals as goal

pub returns-clause-finds : goal.returns-clause-finds
returns-clause-finds g c = record {
  exact = λ told r there. same_found c.args.entry c.in_ok-key.field-0 r (c.in_ok-key.ensures.exact told r there);
  number = refl;
  reason = tt;
}
