use Rattle.std.proofs.Common.{arith, ◌<◌}
use Rattle.turnstile.specs.Passes.{first_of}
use Rattle.turnstile.proofs.Keeps.{enters_ok}
use Rattle.turnstile.proofs.turnstile.Turnstile.try_mark.Goals as goal

pub compare_exchange-found-requires : goal.compare_exchange-found-requires
compare_exchange-found-requires g c = let t = c.args.self.now in let p = c.args.pass.now in
    let some_word : 0 < t.table.shared.table_id.words = omega (arith, t.sized.0) in
    (c.requires.own.0, some_word, enters_ok g.T.Held.shows g.T.Held.is_sound g.T.Held.covers (first_of t) t.table.shared.table_id.slots p.seat.id c.args.word p.seat.me c.requires.own.1 c.requires.outside.0 c.requires.outside.1 c.requires.even)
