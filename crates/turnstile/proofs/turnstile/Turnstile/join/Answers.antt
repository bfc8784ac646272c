use Rattle.std.proofs.Common.{arith, ◌<◌, ◌∙◌, ap}
use Rattle.turnstile.specs.Passes.{first_of}
use Rattle.turnstile.proofs.Keeps.{join_ok, looks}
use Rattle.turnstile.proofs.turnstile.Turnstile.join.Goals as goal

pub join_seat-requires : goal.join_seat-requires
join_seat-requires g c = let t = c.args.self.now in let p = c.args.pass.now in let o = c.args.other in
    let some_word : 0 < t.table.shared.table_id.words = omega (arith, t.sized.0) in (
      c.requires.own.0.0,
      c.requires.own.1.0,
      c.requires.outside.1.1,
      some_word,
      join_ok g.T.Held.shows g.T.Held.is_sound g.T.Held.covers (first_of t) p.seat.id o.seat.id p.seat.me.0 o.seat.me.0 c.requires.own.0.1 c.requires.own.1.1 c.requires.outside.1.0,
    )

pub load-requires : goal.load-requires
load-requires g c = let t = c.args.self.now in let s = c.join_seat.new.seat in
    let some_word : 0 < t.table.shared.table_id.words = omega (arith, t.sized.0) in (
      c.join_seat.ensures.0 ∙ c.requires.own.0.0,
      some_word,
      looks g.T.Held.shows g.T.Held.is_sound g.T.Held.covers (first_of t) t.table.shared.table_id.slots s.id s.me (ap (λ m. m.0.first) c.join_seat.ensures.2 ∙ c.requires.own.0.1),
    )
