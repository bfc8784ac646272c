use Rattle.std.proofs.Common.{◌≡◌, ◌-◌, length, take, replicate, arith}
use Rattle.header_block.proofs.ReadBack.{row_fits, store_read, name_read, same_row}
use Rattle.header_block.proofs.reader.Reader.store.Goals as goal

pub returns-clause-back : goal.returns-clause-back
returns-clause-back c next s rest small row is =
    let fits = row_fits next s small row in
    let read = store_read s rest fits c.args.self.now.rest.now c.long-id.new.self.rest.now c.bytes.result.now c.bytes.new.self.rest.now c.bytes-field.result.now c.bytes-field.new.self.rest.now
    c.long-seq.new.self.rest.now c.long-documents.new.self.rest.now c.long-id.result c.from.result c.long-seq.result c.long-documents.result is
    (λ behind. c.long-id.ensures.back s.id behind (omega (arith, fits.id))) c.bytes.ensures.front c.bytes.ensures.rest c.from.ensures c.bytes-field.ensures.front c.bytes-field.ensures.rest
    (λ behind. c.long-seq.ensures.back s.seq behind (omega (arith, fits.seq))) (λ behind. c.long-documents.ensures.back s.documents behind (omega (arith, fits.documents))) in
    let len : c.min.result ≡ length s.name = omega (arith, c.min.ensures, read.len, fits.name) in
    let name : take c.min.result c.bytes-field.result.now ≡ s.name = name_read s.name (replicate (31 - length s.name) 0) c.bytes-field.result.now c.min.result read.field len in
    (same_row s c.long-id.result (take c.min.result c.bytes-field.result.now) c.long-seq.result c.long-documents.result read.id name read.seq read.documents, read.left)
