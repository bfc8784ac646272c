use Rattle.std.proofs.Common.{rules, ◌≡◌, [], sym, subst}
use Rattle.file_parts.specs.Growing.{AreNoHeaders}
use Rattle.file_parts.proofs.Growing.{none_no_headers, puts_no_headers}
use Rattle.file_parts.proofs.records.append.Goals as goal

pub put_records-requires-clause-no_headers : goal.put_records-requires-clause-no_headers
put_records-requires-clause-no_headers g c κs within =
    let empty : c.new-out.result.items ≡ [] = search rules in
    subst AreNoHeaders (sym c.as_slice.ensures.value)
    (puts_no_headers _ _ _ _ _ _ c.in_ok-address.ensures.put (subst AreNoHeaders (sym empty) none_no_headers))
