use Rattle.std.proofs.Common.{◌∙◌}
use Rattle.file_documents.proofs.BatchPut.{grown_little, item_put}
use Rattle.file_documents.proofs.batch_puts.put_item.Goals as goal

pub returns-clause-put : goal.returns-clause-put
returns-clause-put c =
    item_put c.args.revision c.args.at.store c.args.at.seq c.args.item.now c.args.tail.now c.put.new.self c.args.out.now.items c.put.new.out.items c.in_ok-rec.rec
    (record { room = c.in_ok-room.room; entry = c.entry_for-entry.result }) c.address.result c.in_ok-rec.ensures.record c.in_ok-rec.ensures.is_record c.in_ok-put.ensures.put
    (c.in_ok-room.ensures.key ∙ c.as_slice.ensures) c.address.ensures.value c.entry_for-entry.ensures.entry

pub returns-clause-grown : goal.returns-clause-grown
returns-clause-grown c =
    grown_little c.args.revision c.args.at.store c.args.at.seq c.address.result c.args.item.now c.args.tail.now c.put.new.self c.args.out.now.items c.put.new.out.items c.in_ok-rec.rec c.entry_for-entry.result
    c.in_ok-rec.ensures.record c.in_ok-put.ensures.put c.address.ensures.offset c.entry_for-entry.ensures.entry c.entry_for-entry.ensures.small
