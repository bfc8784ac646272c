use Rattle.std.proofs.Common.{length, arith}
use Rattle.header_block.proofs.HeaderBack.{header_fits, small, fields_read}
use Rattle.header_block.proofs.reader.Reader.fields.Goals as goal

pub returns : goal.returns
returns c h at rest well_formed is =
    let fits = header_fits at h well_formed in
    fields_read h rest c.args.self.now.rest.now c.long.new.self.rest.now c.long-2.new.self.rest.now c.optional.new.self.rest.now c.optional-2.new.self.rest.now c.optional-3.new.self.rest.now c.long-3.new.self.rest.now
    c.long-4.new.self.rest.now c.long-5.new.self.rest.now c.long-count.new.self.rest.now
    c.long.result c.long-2.result c.optional.result c.optional-2.result c.optional-3.result c.long-3.result c.long-4.result c.long-5.result c.new.result c.long-count.result c.new.ensures is
    (λ behind. c.long.ensures.back h.commit behind fits.commit) (λ behind. c.long-2.ensures.back h.next_commit behind fits.next_commit)
    (λ behind. c.optional.ensures.back h.previous behind (small h.previous fits.previous)) (λ behind. c.optional-2.ensures.back h.key behind (small h.key fits.key))
    (λ behind. c.optional-3.ensures.back h.seq behind (small h.seq fits.seq)) (λ behind. c.long-3.ensures.back h.wal_from behind fits.wal_from)
    (λ behind. c.long-4.ensures.back h.live behind fits.live) (λ behind. c.long-5.ensures.back h.next_store behind (omega (arith, fits.next_store)))
    (λ behind. c.long-count.ensures.back (length h.stores) behind (omega (arith, fits.count)))
