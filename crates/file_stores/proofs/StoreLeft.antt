-- What the steps of a removal leave together.
use Rattle.std.proofs.Common.{◌≡◌, ℕ, ◌+◌, ◌-◌, ◌^◌, [], ◌∷◌, ◌++◌, length, sym, ap, ◌∙◌, Bool}
use Rattle.std.specs.Prelude.{true, min, not, ◌==◌, None}
use Rattle.std.specs.FinMap as finite
use Rattle.forest_model.specs.Step.{first_cause}
use Rattle.forest_model.specs.declared.stored.Rec.{Rec}
use Rattle.kvs_names.specs.Answers.{remove_causes as why_not_removed}
use Rattle.kvs_names.specs.Table.{without}
use Rattle.wal_index.specs.Index.{Index}
use Rattle.wal_index.specs.Live.{own_live}
use Rattle.file_parts.specs.Held.{Held}
use Rattle.file_stores.specs.StoreChanges.{gone_of, RemovesStore}
use Rattle.file_parts.specs.Moment.{Moment}
use Rattle.file_parts.specs.Records.{PutsRecord}
use Rattle.file_parts.proofs.Puts.{put_on}

-- the memory is taken, the record is put, and then all else is changed
pub unmade : (told : Bool) (id : ℕ) (old mid new : Moment) (w : Index) (live : ℕ) (r : Rec) → w ≡ record (old.held.wal) { may_go = true } → r ≡ gone_of id
    → PutsRecord told r (record old { held = record (old.held) { wal = w } }) mid → mid.held ≡ record (old.held) { wal = w; tail = mid.held.tail }
    → new.disk ≡ mid.disk → new.file ≡ mid.file
    → new.held.wal.entries ≡ finite.retain_keys mid.held.wal.entries (λ k. not (k.store == id)) → new.held.wal.gone ≡ mid.held.wal.gone ++ id ∷ []
    → (first_cause (why_not_removed mid.held.names id) ≡ None → new.held.names ≡ without mid.held.names id)
    → new.held ≡ record (mid.held) {
      blocks = mid.held.tail.number;
      names = new.held.names;
      wal = new.held.wal;
      loose = length mid.held.tail.bytes;
      live = mid.held.live - live;
      place = mid.held.place + 1;
    }
    → live ≡ min (own_live id old.held.wal.entries) (2 ^ 64 - 1) → RemovesStore told id old new
unmade told id old mid new w live r w_is r_is puts mid_is disk_is file_is entries gone names rest live_is =
    let t_is : mid.held.tail ≡ new.held.tail = sym (ap (λ (h : Held). h.tail) rest) in
    record {
      puts = put_on told old mid new w r (gone_of id) r_is puts t_is disk_is file_is;
      entries = entries ∙ (λ i. finite.retain_keys (mid_is i).wal.entries (λ k. not (k.store == id))) ∙ (λ i. finite.retain_keys (w_is i).entries (λ k. not (k.store == id)));
      gone = gone ∙ (λ i. (mid_is i).wal.gone ++ id ∷ []) ∙ (λ i. (w_is i).gone ++ id ∷ []);
      names = λ free. names (ap (λ (h : Held). first_cause (why_not_removed h.names id)) mid_is ∙ free) ∙ ap (λ (h : Held). without h.names id) mid_is;
      rest = rest ∙ (λ i. record (mid_is i) {
        blocks = (t_is i).number;
        names = new.held.names;
        wal = new.held.wal;
        tail = t_is i;
        loose = length (t_is i).bytes;
        live = (mid_is i).live - live_is i;
        place = (mid_is i).place + 1;
      });
    }
