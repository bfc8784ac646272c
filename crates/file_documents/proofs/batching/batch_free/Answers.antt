use Rattle.std.proofs.Common.{rules, ◌≡◌, ◌≤◌, ◌+◌, [], length, map, sym, ap, subst, arith}
use Rattle.std.proofs.lemmas.List.{length-map}
use Rattle.file_documents.specs.Batching.{item_key}
use Rattle.file_documents.specs.BatchPuts.{room_of}
use Rattle.file_parts.specs.Growing.{AreNoHeaders}
use Rattle.file_parts.specs.Moment.{moment}
use Rattle.file_parts.proofs.Growing.{none_no_headers}
use Rattle.file_documents.proofs.BatchDone.{batched}
use Rattle.file_documents.proofs.BatchPut.{all_no_headers, rooms_are}
use Rattle.file_documents.proofs.batching.batch_free.Goals as goal

pub put_records-requires-clause-no_headers : goal.put_records-requires-clause-no_headers
put_records-requires-clause-no_headers g c κs within =
    let b = c.in_ok-tail.field-0 in
    subst AreNoHeaders (sym c.as_slice.ensures.value)
    (all_no_headers c.args.parts.now.revision c.args.at.now.store c.args.numbers.0 c.args.items.now b.pending.items c.args.parts.now.tail b.tail [] b.out.items c.in_ok-tail.ensures.put none_no_headers)

pub enter_batch-requires-clause-room : goal.enter_batch-requires-clause-room
enter_batch-requires-clause-room g c =
    let b = c.in_ok-tail.field-0 in
    let rooms : map room_of b.pending.items ≡ map item_key c.args.items.now =
    rooms_are c.args.parts.now.revision c.args.at.now.store c.args.numbers.0 c.args.items.now b.pending.items c.args.parts.now.tail b.tail [] b.out.items c.in_ok-tail.ensures.put
    in
    let len : length b.pending.items ≡ length c.args.items.now = omega (arith, ap length rooms, length-map b.pending.items room_of, length-map c.args.items.now item_key) in
    let room : length c.args.items.now ≤ c.put_records.new.parts.wal.room = search rules in
    omega (arith, len, room)

pub returns-clause-gives : goal.returns-clause-gives
returns-clause-gives g c =
    let b = c.in_ok-tail.field-0 in (
      ap (λ n. n + length c.args.items.now) c.requires.seq,
      batched g.H.Host.tells c.args.at.now.store c.args.numbers.0 c.args.numbers.1 c.args.items.now b.pending.items
          (moment c.args.parts.now)
          (moment c.put_records.new.parts)
          (moment c.enter_batch.new.parts)
          c.put_batch.new.wal b.tail b.out.items c.as_slice.result.now c.requires.seq c.requires.documents c.put_batch.ensures.entries c.put_batch.ensures.gone c.in_ok-tail.ensures.put
          c.in_ok-put_records.ensures.kept (ap g.H.Host.disk c.enter_batch.ensures.outside.host) (ap g.H.View.View.content c.enter_batch.ensures.outside.view)
          c.as_slice.ensures.value c.in_ok-put_records.ensures.files c.in_ok-put_records.ensures.shown
          c.enter_batch.ensures.entries c.enter_batch.ensures.gone c.enter_batch.ensures.rest,
    )
