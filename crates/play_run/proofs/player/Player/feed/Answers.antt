use Rattle.play_run.specs.Playing.{position}
use Rattle.play_run.proofs.Ending.{fault_ends, at_end, read_stops, read_too_long, read_feeds}
use Rattle.std.proofs.Common.{subst, sym, ap, ◌∙◌, ◌++◌, ◌≡◌, take, arith}
use Rattle.play_run.proofs.player.Player.feed.Goals as goal

pub returns-in-Err-clause-ends : goal.returns-in-Err-clause-ends
returns-in-Err-clause-ends g c = λ told base taken script source long has.
    fault_ends _ base _ taken script _ c.args.self.now.open_line.items (position c.args.self.now.session.file.parts c.args.self.now.session.lanes) c.args.self.now.count has (omega (arith, long, c.requires.some, c.requires.within))
    (source ∙ ap (λ rest. taken ++ rest) (sym (c.in-Err.ensures.kept told)))

pub returns-then-n-eq0-clause-ends : goal.returns-then-n-eq0-clause-ends
returns-then-n-eq0-clause-ends g c = λ told base taken script source long has.
    let none = c.in-Ok.ensures.end told c.requires.some c.if-n-eq0.true in
    let given = c.in-Ok.ensures.given told in
    at_end c.end.result _ base _ taken script _ _ _ (c.end.ensures.ends base taken (omega (arith, long, c.requires.some, c.requires.within)) has) source none
    (sym (subst (λ n. g.S.Source.rest c.args.source.now ≡ take n c.read.new.room ++ g.S.Source.rest c.read.new.self) c.if-n-eq0.true given) ∙ none)

pub returns-in-Ok-2-clause-ends : goal.returns-in-Ok-2-clause-ends
returns-in-Ok-2-clause-ends g c = λ told base taken script source long has.
    read_too_long _ base _ taken c.read.new.room _ _ script _ (position c.take_bytes.new.self.session.file.parts c.take_bytes.new.self.session.lanes) _ c.in-Ok.n c.min.result (c.in-Ok-2.ensures.taken base taken has) (omega (arith, c.min.ensures, c.in-Ok.ensures.count)) (omega (arith, c.in-Ok.ensures.count))
    (c.in-Ok.ensures.given told) source (omega (arith, c.if-n-left.false, c.in-Ok.ensures.count))

pub returns-in-Err-take_bytes-clause-ends : goal.returns-in-Err-take_bytes-clause-ends
returns-in-Err-take_bytes-clause-ends g c = λ told base taken script source long has.
    read_stops _ _ base _ taken c.read.new.room _ _ script c.in-Ok.n c.min.result _ (c.in-Err-take_bytes.ensures.stops base taken has) (omega (arith, c.min.ensures))
    (c.in-Ok.ensures.given told) source

pub returns-in-Ok-take_bytes-clause-taken : goal.returns-in-Ok-take_bytes-clause-taken
returns-in-Ok-take_bytes-clause-taken g c = λ told base taken script source has.
    read_feeds _ base _ taken c.read.new.room _ _ script _ (position c.take_bytes.new.self.session.file.parts c.take_bytes.new.self.session.lanes) _ c.in-Ok.n c.min.result (c.in-Ok-take_bytes.ensures.taken base taken has)
    (omega (arith, c.min.ensures, c.if-n-left.true)) (omega (arith, c.in-Ok.ensures.count)) (c.in-Ok.ensures.given told) source
