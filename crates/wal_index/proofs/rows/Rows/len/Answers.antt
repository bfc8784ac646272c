use Rattle.std.proofs.Common.{◌≡◌, length, rules, arith}
use Rattle.wal_index.proofs.TwoLists.{rows_length}
use Rattle.wal_index.proofs.rows.Rows.len.Goals as goal

pub returns : goal.returns
returns c =
    let settled : c.len.result ≡ length c.args.self.now.settled.items = search rules in
    let recent : c.len-2.result ≡ length c.args.self.now.recent.items = search rules in
    omega (arith, settled, recent, rows_length c.args.self.now.settled.items c.args.self.now.recent.items c.requires)
