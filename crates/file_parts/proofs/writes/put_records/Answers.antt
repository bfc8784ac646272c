use Rattle.file_parts.specs.Growing.{IsAmong, IsNoHeader}
use Rattle.file_parts.specs.Moment.{moment}
use Rattle.file_parts.proofs.Keeping.{keeps_as}
use Rattle.file_parts.proofs.writes.put_records.Goals as goal

pub returns-clause-keeps : goal.returns-clause-keeps
returns-clause-keeps g c =
    keeps_as (IsAmong c.args.blocks.now) IsNoHeader g.H.Host.tells
    (moment c.args.parts.now)
    (moment c.grow_or_stop.new.parts)
    c.grow_or_stop.result (λ block among. c.requires.no_headers.each among.place block among.there) c.grow_or_stop.ensures.keeps
