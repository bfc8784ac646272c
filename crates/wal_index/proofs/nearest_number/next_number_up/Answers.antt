use Rattle.std.proofs.lemmas.Option.{IfSome_then}
use Rattle.wal_index.proofs.ByNumber.{none_then}
use Rattle.wal_index.proofs.NextNumber.{up_found, up_absent}
use Rattle.wal_index.proofs.nearest_number.next_number_up.Goals as goal

pub returns : goal.returns
returns c = record {
  found = IfSome_then c.number_of_store.result c.number_of_store.ensures.found (λ r at. up_found c.args.numbers.now c.requires c.args.with c.args.store c.args.seq c.border-at.result c.border-at.ensures r.0 r.1.now at);
  absent = none_then c.number_of_store.result c.number_of_store.ensures.absent (λ apart. up_absent c.args.numbers.now c.requires c.args.with c.args.store c.args.seq c.border-at.result c.border-at.ensures apart);
}
