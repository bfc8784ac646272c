use Rattle.std.proofs.Common.{refl, ap}
use Rattle.file_parts.specs.Moment.{moment}
use Rattle.file_stores.proofs.StoreLeft.{unmade}
use Rattle.file_stores.proofs.removing.unmake.Goals as goal

pub returns-clause-gives : goal.returns-clause-gives
returns-clause-gives g c = (
  refl,
  unmade g.H.Host.tells c.args.id
      (moment c.args.parts.now)
      (moment c.append.new.parts)
      (moment c.forget.new.parts)
      c.reserve_gone.new.self c.live_of-live.result c.in_ok-rec.rec c.in_ok-reserve_gone.ensures.may_go c.in_ok-rec.ensures.record
      c.in_ok-append.ensures.puts c.in_ok-append.ensures.rest (ap g.H.Host.disk c.forget.ensures.outside.host) (ap g.H.View.View.content c.forget.ensures.outside.view)
      c.forget.ensures.entries c.forget.ensures.gone c.forget.ensures.names c.forget.ensures.rest c.live_of-live.ensures,
)
