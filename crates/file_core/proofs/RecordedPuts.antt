-- The records of an open file to which one is put: a key is set or deleted, a store is made or goes.
use Rattle.std.proofs.Common.{◌≡◌, ℕ, ◌+◌, ◌-◌, ◌^◌, ◌<◌, Bool, true, false, cond, List, [], ◌∷◌, ◌++◌, Some, refl, sym, subst, arith}
use Rattle.std.specs.Prelude.{IsTrue, not, ◌&&◌, ◌||◌, nat_lt, nat_le, find}
use Rattle.std.proofs.lemmas.Bool.{true≢false}
use Rattle.std.proofs.lemmas.Bool.Decides.{nat_tests}
use Rattle.std.proofs.lemmas.Option.{same_Some, none-some}
use Rattle.block_host.specs.declared.block.Block.{Block}
use Rattle.doc_stream.specs.Scanned.{IsScanned}
use Rattle.forest_model.specs.Limits.{is_name, any_worn}
use Rattle.forest_model.specs.Records.{is_record}
use Rattle.forest_model.specs.State.{IdsBelow}
use Rattle.forest_model.specs.declared.state.State.{State}
use Rattle.forest_model.specs.declared.state.Store.{Store}
use Rattle.wal_index.specs.Index.{Index}
use Rattle.file_parts.specs.Held.{Held}
use Rattle.file_parts.specs.Moment.{Moment}
use Rattle.file_stores.specs.StoreChanges.{new_of, gone_of}
use Rattle.file_core.specs.Recorded.{IsRecorded}
use Rattle.file_core.proofs.Puts.{Puts, grown}
use Rattle.file_core.proofs.RecordedMore.{Told, More}

-- what is put behind the blocks is in the file
pub grown_more : {told : Bool} {bytes : List ℕ} {n : ℕ} {old new : Moment} {s : State} (puts : Puts told bytes n old new s) (a b : Told)
    → More old.held.revision old.held.tail new.held.tail old.file (old.file ++ puts.out) a b → IsTrue told → More old.held.revision old.held.tail new.held.tail old.file new.file a b
grown_more {old = old} {new = new} puts a b more t = subst (λ (bs : List Block). More old.held.revision old.held.tail new.held.tail old.file bs a b) (sym (grown puts t)) more

-- another index over the same file
pub recorded_kept : (p : Held) (file other : List Block) (s : State) (wal : Index) → other ≡ file → IsRecorded p file s → IsRecorded (record p { wal = wal }) other s
recorded_kept p file other s wal same was = record {
  records = was.records;
  scanned = subst (λ (bs : List Block). IsScanned p.revision bs p.tail p.header.wal_from was.records) (sym same) was.scanned;
  made = was.made;
  recent = was.recent;
  behind = subst (λ (bs : List Block). IsScanned p.revision bs p.tail (p.header_at + 1) was.recent) (sym same) was.behind;
  folded = was.folded;
}

-- ---- the records of stores

less : (a b : ℕ) → a < b → nat_lt a b ≡ true
less a b small = grind (arith, nat_tests)

not_worn : (a b : ℕ) → any_worn (a ∷ b ∷ []) ≡ false → a < 2 ^ 64
not_worn a b e = by (nat_le (2 ^ 62 - 1) a) refl e where
  by : (t : Bool) → nat_le (2 ^ 62 - 1) a ≡ t → (t || any_worn (b ∷ [])) ≡ false → a < 2 ^ 64
  by true is wrong = absurd (true≢false wrong)
  by false is free = grind (arith, nat_tests)

named : (b : Bool) → not b ≡ false → b ≡ true
named true e = refl
named false e = absurd (true≢false e)

pub new_is_record : (id place : ℕ) (name : List ℕ) → not (is_name name) ≡ false → any_worn (id ∷ place ∷ []) ≡ false → IsTrue (is_record (new_of id name))
new_is_record id place name is free =
    (λ i. (less id (2 ^ 64) (not_worn id place free) i && true) && (false || (named (is_name name) is i && true && true && true) || false))

pub gone_is_record : (id : ℕ) → id < 2 ^ 64 → IsTrue (is_record (gone_of id))
gone_is_record id small = λ i. (less id (2 ^ 64) small i && true) && true

-- the id of a store is drawn
pub found_below : (p : Store → Bool) (next : ℕ) (stores : List Store) (st : Store) → IdsBelow next stores → find p stores ≡ Some st → st.id < next
found_below p next [] st all e = absurd (none-some st e)
found_below p next (s ∷ stores) st all e = by (p s) e (λ f. found_below p next stores st all.1 f) where
  by : (b : Bool) → cond b (Some s) (find p stores) ≡ Some st → (find p stores ≡ Some st → st.id < next) → st.id < next
  by true f later = subst (λ (x : Store). x.id < next) (same_Some s st f) all.0
  by false f later = later f
