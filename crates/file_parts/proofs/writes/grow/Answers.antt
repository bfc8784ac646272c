use Rattle.file_parts.proofs.Growing.{grows_on, read_grows}
use Rattle.file_parts.proofs.writes.grow.Goals as goal

pub returns-clause-crash : goal.returns-clause-crash
returns-clause-crash g c = λ told.
    let put = c.put_at_end.ensures in
    grows_on _ _ _ _ _ put.clock (put.aside told).said (put.front told).long (put.crash told) (read_grows _ _ _ _ (c.renew.ensures.told told))
