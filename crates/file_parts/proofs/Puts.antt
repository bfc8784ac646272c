-- What is known of a record once it is put.
use Rattle.std.proofs.Common.{◌≡◌, Bool, ◌++◌, [], length, arith, length-append, sym, ap, subst, ◌∙◌}
use Rattle.doc_stream.specs.OpenBlock.{OpenBlock, PutsBytes}
use Rattle.forest_model.specs.Records.{record_bytes}
use Rattle.forest_model.specs.Step.{record_length}
use Rattle.forest_model.specs.declared.stored.Rec.{Rec}
use Rattle.wal_index.specs.Index.{Index}
use Rattle.file_parts.specs.Moment.{Moment}
use Rattle.file_parts.specs.Records.{PutsRecord}

-- how many bytes it has
pub length-record : (r : Rec) → length (record_bytes r) ≡ record_length r.key r.meta r.body
length-record r = omega (arith, length-append r.key r.meta, length-append (r.key ++ r.meta) r.body)

-- the index has room, the record is put, and then neither the open block nor the file is changed
pub put_on : (told : Bool) (old mid new : Moment) (w : Index) (r s : Rec) → r ≡ s → PutsRecord told r (record old { held = record (old.held) { wal = w } }) mid
    → mid.held.tail ≡ new.held.tail → new.disk ≡ mid.disk → new.file ≡ mid.file → PutsRecord told s old new
put_on told old mid new w r s r_is puts t_is disk_is file_is = record {
  out = puts.out;
  put = subst (λ (t : OpenBlock). PutsBytes old.held.revision (record_bytes s) old.held.tail t [] puts.out) t_is
      (subst (λ (q : Rec). PutsBytes old.held.revision (record_bytes q) old.held.tail mid.held.tail [] puts.out) r_is puts.put);
  files = λ t. ap (λ d. d.files old.held.revision) disk_is ∙ puts.files t;
  shown = λ t was. file_is ∙ puts.shown t was ∙ sym (ap (λ d. d.files old.held.revision) disk_is);
}
