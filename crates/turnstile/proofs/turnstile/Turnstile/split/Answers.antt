use Rattle.std.proofs.Common.{arith, ◌<◌}
use Rattle.turnstile.specs.Passes.{first_of}
use Rattle.turnstile.proofs.Keeps.{split_ok}
use Rattle.turnstile.proofs.turnstile.Turnstile.split.Goals as goal

pub split_seat-seat-requires : goal.split_seat-seat-requires
split_seat-seat-requires g c = let t = c.args.self.now in let p = c.args.pass.now in
    let some_word : 0 < t.table.shared.table_id.words = omega (arith, t.sized.0) in
    (c.requires.own.0, some_word, split_ok g.T.Held.shows g.T.Held.is_sound g.T.Held.covers (first_of t) p.seat.id p.seat.me.0 c.requires.own.1 c.requires.shares)
