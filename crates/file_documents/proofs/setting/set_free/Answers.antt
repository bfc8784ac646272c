use Rattle.std.proofs.Common.{rules, ◌≡◌, ◌+◌, true, ap}
use Rattle.forest_model.specs.Documents.{key_at}
use Rattle.forest_model.specs.declared.stored.Entry.{Entry}
use Rattle.file_parts.specs.Held.{held}
use Rattle.file_parts.specs.Causes.{seq_in}
use Rattle.file_parts.specs.Moment.{moment}
use Rattle.file_documents.specs.Setting.{put_of, set_doc, entry_of}
use Rattle.file_documents.proofs.SetDone.{entered, next_record}
use Rattle.file_documents.proofs.setting.set_free.Goals as goal

pub returns-clause-gives : goal.returns-clause-gives
returns-clause-gives g c =
    let at = c.args.at.now in
    let k = key_at at.store c.args.key.now in
    let d = set_doc (held c.args.parts.now) at c.args.meta.now c.args.body.now in
    let rec_is : c.in_ok-rec.rec ≡ put_of k d =
    next_record at.store c.args.numbers.0 (seq_in c.args.parts.now.names.rows at.store) c.args.key.now c.args.meta.now c.args.body.now c.in_ok-rec.rec c.in_ok-rec.ensures.record c.requires.seq in
    let e : Entry = record { seq = c.args.numbers.0 + 1; address = c.in_ok-address.address; live = true; len = c.record_len-len.result } in
    let e_is : e ≡ entry_of c.args.parts.now.tail k d =
    (λ i. record { seq = c.requires.seq i + 1; address = c.in_ok-address.ensures.address i; live = true; len = c.record_len-len.ensures.value i }) in (
      ap (λ n. n + 1) c.requires.seq,
      entered g.H.Host.tells k d
          (moment c.args.parts.now)
          (moment c.append.new.parts)
          (moment c.enter.new.parts)
          c.room.new.self c.in_ok-room.room c.in_ok-rec.rec e c.args.numbers.1 c.room.ensures.entries c.room.ensures.gone c.in_ok-room.ensures.key rec_is (search rules) e_is c.requires.documents
          c.in_ok-address.ensures.puts c.in_ok-address.ensures.rest (ap g.H.Host.disk c.enter.ensures.outside.host) (ap g.H.View.View.content c.enter.ensures.outside.view)
          c.enter.ensures.entries c.enter.ensures.gone c.enter.ensures.rest,
    )
