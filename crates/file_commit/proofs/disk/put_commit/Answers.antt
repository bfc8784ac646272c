use Rattle.std.proofs.Common.{◌∙◌}
use Rattle.file_core.specs.Updates.{listed}
use Rattle.file_commit.specs.Ordered.{IsInTurn}
use Rattle.file_commit.proofs.Leaving.{records_first, header_then, left_read}
use Rattle.file_commit.proofs.Fronts.{any_on, any_shown}
use Rattle.file_commit.proofs.disk.put_commit.Goals as goal

pub returns-in_err-put_open_block-clause-in_turn : goal.returns-in_err-put_open_block-clause-in_turn
returns-in_err-put_open_block-clause-in_turn g c told =
    records_first c.args.file (listed c.args.block) c.args.header.now (g.H.Host.disk c.args.host.now) (g.H.Host.disk c.put_open_block.new.host) (c.put_open_block.ensures.begun told)

pub returns-in_err-put_at_end-clause-in_turn : goal.returns-in_err-put_at_end-clause-in_turn
returns-in_err-put_at_end-clause-in_turn g c told =
    header_then c.args.file (listed c.args.block) c.args.header.now (g.H.Host.disk c.args.host.now) (g.H.Host.disk c.put_open_block.new.host) (c.put_open_block.ensures.begun told)
    (g.H.Host.disk c.put_at_end.new.host) (c.in_ok-put_open_block.ensures.settled told) (c.in_ok-put_open_block.ensures.files told) (c.put_open_block.ensures.aside told).said (c.put_at_end.ensures.begun told)

pub returns-clause-in_turn : goal.returns-clause-in_turn
returns-clause-in_turn g c told =
    left_read (IsInTurn c.args.file (g.H.Host.disk c.args.host.now) (listed c.args.block) c.args.header.now) (g.H.Host.disk c.args.host.now) (g.H.Host.disk c.put_at_end.new.host) (g.H.Host.disk c.renew.new.self)
    (header_then c.args.file (listed c.args.block) c.args.header.now (g.H.Host.disk c.args.host.now) (g.H.Host.disk c.put_open_block.new.host) (c.put_open_block.ensures.begun told)
    (g.H.Host.disk c.put_at_end.new.host) (c.in_ok-put_open_block.ensures.settled told) (c.in_ok-put_open_block.ensures.files told) (c.put_open_block.ensures.aside told).said (c.put_at_end.ensures.begun told))
    ((c.put_at_end.ensures.aside told).said ∙ (c.put_open_block.ensures.aside told).said) c.renew.ensures.clock (c.renew.ensures.told told)

pub returns-in_err-put_at_end-clause-crash : goal.returns-in_err-put_at_end-clause-crash
returns-in_err-put_at_end-clause-crash g c = λ told.
    let first = c.put_open_block.ensures in
    any_on _ _ _ _ first.clock (first.aside told) (first.front told) (first.crash told) (c.put_at_end.ensures.crash told)

pub returns-clause-crash : goal.returns-clause-crash
returns-clause-crash g c = λ told.
    let first = c.put_open_block.ensures in
    let next = c.put_at_end.ensures in
    any_on _ _ _ _ first.clock (first.aside told) (first.front told) (first.crash told)
    (any_shown _ _ _ _ next.clock (next.aside told) (next.front told) (next.crash told) (c.renew.ensures.told told))
