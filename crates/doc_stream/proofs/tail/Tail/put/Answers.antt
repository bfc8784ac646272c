use Rattle.std.proofs.Common.{length, ap, arith}
use Rattle.forest_model.specs.Records.{head_bytes}
use Rattle.doc_stream.proofs.Puts.{length-put, put_four}
use Rattle.doc_stream.proofs.tail.Tail.put.Goals as goal

pub put_bytes-requires-2-clause-room : goal.put_bytes-requires-2-clause-room
put_bytes-requires-2-clause-room c =
    let one = length-put c.args.rev c.head_of.result c.args.self.now c.put_bytes.new.self c.reserve.new.self.items c.put_bytes.new.out.items c.put_bytes.ensures.put in
    omega (arith, ap length c.as_slice.ensures, c.len_of.ensures.parts, c.head_of.ensures.long, c.in_ok-reserve.ensures.ok, c.reserve.new.self.ok.0, c.put_bytes.new.out.ok.0, c.put_bytes.ensures.capacity)

pub put_bytes-requires-3-clause-room : goal.put_bytes-requires-3-clause-room
put_bytes-requires-3-clause-room c =
    let one = length-put c.args.rev c.head_of.result c.args.self.now c.put_bytes.new.self c.reserve.new.self.items c.put_bytes.new.out.items c.put_bytes.ensures.put in
    let two = length-put c.args.rev c.as_slice.result.now c.put_bytes.new.self c.put_bytes-2.new.self c.put_bytes.new.out.items c.put_bytes-2.new.out.items c.put_bytes-2.ensures.put in
    omega (arith, ap length c.as_slice.ensures, ap length c.as_slice-2.ensures, c.len_of.ensures.parts, c.head_of.ensures.long, c.in_ok-reserve.ensures.ok, c.reserve.new.self.ok.0, c.put_bytes-2.new.out.ok.0, c.put_bytes.ensures.capacity, c.put_bytes-2.ensures.capacity)

pub put_bytes-requires-4-clause-room : goal.put_bytes-requires-4-clause-room
put_bytes-requires-4-clause-room c =
    let one = length-put c.args.rev c.head_of.result c.args.self.now c.put_bytes.new.self c.reserve.new.self.items c.put_bytes.new.out.items c.put_bytes.ensures.put in
    let two = length-put c.args.rev c.as_slice.result.now c.put_bytes.new.self c.put_bytes-2.new.self c.put_bytes.new.out.items c.put_bytes-2.new.out.items c.put_bytes-2.ensures.put in
    let three = length-put c.args.rev c.as_slice-2.result.now c.put_bytes-2.new.self c.put_bytes-3.new.self c.put_bytes-2.new.out.items c.put_bytes-3.new.out.items c.put_bytes-3.ensures.put in
    omega (arith, ap length c.as_slice.ensures, ap length c.as_slice-2.ensures, ap length c.as_slice-3.ensures, c.len_of.ensures.parts, c.head_of.ensures.long, c.in_ok-reserve.ensures.ok, c.reserve.new.self.ok.0, c.put_bytes-3.new.out.ok.0, c.put_bytes.ensures.capacity, c.put_bytes-2.ensures.capacity, c.put_bytes-3.ensures.capacity)

pub returns-clause-put : goal.returns-clause-put
returns-clause-put c =
    let r = c.args.rec.now in
    put_four c.args.rev c.head_of.result c.as_slice.result.now c.as_slice-2.result.now c.as_slice-3.result.now (head_bytes r) r.key r.meta r.body
    c.args.self.now c.put_bytes.new.self c.put_bytes-2.new.self c.put_bytes-3.new.self c.put_bytes-4.new.self
    c.reserve.new.self.items c.put_bytes.new.out.items c.put_bytes-2.new.out.items c.put_bytes-3.new.out.items c.put_bytes-4.new.out.items c.args.out.now.items
    c.head_of.ensures.value c.as_slice.ensures c.as_slice-2.ensures c.as_slice-3.ensures c.reserve.ensures.items
    c.put_bytes-2.ensures.not_full c.put_bytes-3.ensures.not_full c.put_bytes-4.ensures.not_full
    c.put_bytes.ensures.put c.put_bytes-2.ensures.put c.put_bytes-3.ensures.put c.put_bytes-4.ensures.put

pub returns-in_err-reserve-clause-room : goal.returns-in_err-reserve-clause-room
returns-in_err-reserve-clause-room c room =
    let needed = c.needed.ensures in
    let long = c.len_of.ensures.value in
    let full = c.in_err-reserve.ensures.full in
    absurd (omega arith)

pub returns-in_err-reserve-clause-fits : goal.returns-in_err-reserve-clause-fits
returns-in_err-reserve-clause-fits c fits =
    let needed = c.needed.ensures in
    let long = c.len_of.ensures.value in
    let full = c.in_err-reserve.ensures.full in
    let held = c.args.out.now.ok.0 in
    absurd (omega arith)
