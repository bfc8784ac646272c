-- The file stands for the state after an update of a store's documents.
use Rattle.std.proofs.Common.{◌≡◌, ◌≢◌, ℕ, ◌+◌, ◌/◌, ◌≤◌, Bool, List, ◌++◌, length, map, Some, refl, sym, ap, subst, ◌∙◌, arith, inr}
use Rattle.std.specs.Prelude.{IsTrue}
use Rattle.kvs_names.specs.Table.{counted}
use Rattle.file_image.specs.Commits.{live_bytes}
use Rattle.forest_model.specs.Blocks.{File}
use Rattle.forest_model.specs.Documents.{Map, count_of}
use Rattle.forest_model.specs.Run.{FileAfter, Grows, AddsRecords}
use Rattle.forest_model.specs.State.{IsState}
use Rattle.forest_model.specs.Stores.{with_seq}
use Rattle.forest_model.specs.Step.{step_of, written}
use Rattle.forest_model.specs.declared.call.Call.{Call}
use Rattle.forest_model.specs.declared.call.StoreRef.{StoreRef}
use Rattle.forest_model.specs.declared.state.State.{State}
use Rattle.model_laws.specs.Laws.{RulesStay, RecordsKeepHeader}
use Rattle.file_parts.specs.Held.{Held}
use Rattle.file_core.specs.Stands.{Stands, AreDocuments, DrawNumbers, SameAtSameNumber, row_in}
use Rattle.file_parts.specs.Moment.{Moment}
use Rattle.file_core.specs.Updates.{StandsAt, IsFile, bytes_of}
use Rattle.file_documents.specs.Writing.{WritesFile}
use Rattle.file_core.proofs.Puts.{Puts, loose_is, room_left, bytes_are, size_is, grows, file_is}
use Rattle.file_core.proofs.RecordedMore.{More, told_of, recorded_more}
use Rattle.file_core.proofs.StoreRows.{rows_counted}

abbrev pub after_update : State → StoreRef → ℕ → Map → ℕ → State
after_update s at seq m n = (written s at seq m n).1

-- An update of documents that is done: the step answers it, and memory and file have its records of n bytes.
pub record Update (told : Bool) (at : StoreRef) (call : Call) (n seq documents live : ℕ) (bytes : List ℕ) (m : Map) (old new : Moment) (s : State) (f : File) : Type 0 where
  pub stands : StandsAt told old s
  pub room : old.held.blocks + (length old.held.tail.bytes + n) / 4064 + 2 ≤ old.held.limits.max_blocks
  pub long : length bytes ≡ n
  pub stepped : (step_of s f call).1 ≡ after_update s at seq m n
  pub writes : WritesFile told at.store seq documents live bytes old new

module _ {told : Bool} {at : StoreRef} {call : Call} {n seq documents live : ℕ} {bytes : List ℕ} {m : Map} {old new : Moment} {s : State} {f : File} (u : Update told at call n seq documents live bytes m old new s f) where
  abbrev pub puts : Puts told bytes n old new s
  puts = record { stands = u.stands; long = u.long; out = u.writes.out; put = u.writes.writes.put; files = u.writes.files; shown = u.writes.shown }

  rows_now : documents ≡ count_of m at.store → ((j : ℕ) → at.store ≢ j → count_of m j ≡ count_of s.documents j) → (counted old.held.names at.store seq documents).rows ≡ map (row_in m) (with_seq s.stores at.store seq)
  rows_now counted_now others = ap (map _) u.stands.rows ∙ rows_counted s.documents m at.store seq documents counted_now others s.stores

  pub written_stands : RulesStay → AreDocuments told old.held.revision new.file new.held.tail new.held.wal.entries m → DrawNumbers new.held.wal.entries (with_seq s.stores at.store seq)
      → documents ≡ count_of m at.store → ((j : ℕ) → at.store ≢ j → count_of m j ≡ count_of s.documents j) → live ≡ live_bytes m → live ≤ old.held.live + n
      → SameAtSameNumber (after_update s at seq m n)
      → (IsTrue told → More old.held.revision old.held.tail new.held.tail old.file new.file (told_of s) (told_of (after_update s at seq m n))) → StandsAt told new (after_update s at seq m n)
  written_stands rules documents_are numbers_are counted_now others live_now live_low unchanged more =
      subst (λ (h : Held). Stands told h new.disk new.file (after_update s at seq m n)) (sym u.writes.writes.rest) (record {
        running = u.stands.running;
        shown = λ t. u.writes.shown t (u.stands.shown t);
        is_state = subst (λ (x : State). IsState x) u.stepped (rules s f call u.stands.is_state);
        rows = rows_now counted_now others;
        next_store = u.stands.next_store;
        no_key_root = u.stands.no_key_root;
        no_seq_root = u.stands.no_seq_root;
        documents = documents_are;
        numbers = numbers_are;
        live = live_now;
        commit = u.stands.commit;
        committed = u.stands.committed;
        kept = u.stands.kept;
        unchanged = unchanged;
        revision = u.stands.revision;
        generation = u.stands.generation;
        place = ap (λ n. n + 1) u.stands.place;
        next_commit = u.stands.next_commit;
        next_ticket = u.stands.next_ticket;
        limits = u.stands.limits;
        copying = u.stands.copying;
        loose = loose_is puts;
        open_block = loose_is puts;
        at_end = refl;
        size = λ t. size_is puts t;
        room = inr (room_left puts u.room);
        low = omega (arith, room_left puts u.room, u.stands.most);
        most = u.stands.most;
        within = omega (arith, live_low, bytes_are puts, u.stands.within);
        recorded = λ t. recorded_more old.held _ old.file new.file s (after_update s at seq m n) u.stands.rows (rows_now counted_now others) refl refl refl refl (more t) (u.stands.recorded t);
      })

  pub written_grows : (AddsRecords ((s.loose + n) / 4064) f (f ++ bytes_of u.writes.out) → Grows s f call (f ++ bytes_of u.writes.out)) → FileAfter s f (Some call) (after_update s at seq m n) (f ++ bytes_of u.writes.out)
  written_grows by_adding = grows puts f call (after_update s at seq m n) refl by_adding

  pub written_file : RecordsKeepHeader → IsFile told old.held old.file f → IsFile told new.held new.file (f ++ bytes_of u.writes.out)
  written_file headers was =
      file_is puts headers f was (ap (λ (h : Held). h.header) u.writes.writes.rest) (ap (λ (h : Held). h.header_at) u.writes.writes.rest) (ap (λ (h : Held). h.blocks) u.writes.writes.rest)
