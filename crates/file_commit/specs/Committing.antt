-- What a commit does, by what an open file has in memory.
use Rattle.std.specs.Prelude.{◌≡◌, ℕ, ◌+◌, ◌^◌, ◌≤◌, Bool, ◌&&◌, ◌||◌, ◌==◌, IsTrue, List, [], ◌∷◌, ◌++◌, length, Option, Some, None, nat_eq, nat_lt, MatchBool, MatchResult, Result, Ok, Err}
use Rattle.std.specs.Cmp.Lexicographic.{pointwise}
use Rattle.block_host.specs.Disk.{risen}
use Rattle.block_host.specs.Sealed.{IsSealed}
use Rattle.block_host.specs.declared.block.Block.{Block}
use Rattle.forest_model.specs.Blocks.{is_block, is_header, commit_number, previous_link, wal_from}
use Rattle.forest_model.specs.Limits.{any_worn}
use Rattle.forest_model.specs.Run.{link_to}
use Rattle.forest_model.specs.Stored.{StoreRow}
use Rattle.forest_model.specs.declared.call.StoreRef.{StoreRef}
use Rattle.forest_model.specs.declared.refusal.Refusal.{Refusal}
use Rattle.forest_model.specs.declared.refusal.Refusal.TheVariants.{ReadOnly, Worn, DiskFault}
use Rattle.forest_model.specs.declared.stored.Header.{Header}
use Rattle.header_block.specs.Layout.{header_bytes}
use Rattle.file_parts.specs.Held.{Held}
use Rattle.file_parts.specs.Moment.{Moment}
use Rattle.file_core.specs.Updates.{IsOpenBlock, listed}

-- the same store at the same sequence number
abbrev pub is_same_row : StoreRow → StoreRow → Bool
is_same_row a b = (a.id == b.id) && pointwise nat_eq a.name b.name && (a.seq == b.seq)

abbrev pub are_same_rows : List StoreRow → List StoreRow → Bool
are_same_rows = pointwise is_same_row

-- the numbers that a commit would draw are worn
abbrev pub is_commit_worn : Held → Bool
is_commit_worn p = any_worn (p.next_commit ∷ (p.place + 1) ∷ [])

-- the open block or the last header lies further than in any file
abbrev pub is_far : Held → Bool
is_far p = nat_lt (2 ^ 40) p.tail.number || nat_lt (2 ^ 40) p.header_at

-- the header of the next commit
abbrev pub header_after : Held → Header
header_after p = record {
  commit = p.next_commit;
  next_commit = p.next_commit + 1;
  previous = Some p.header_at;
  key = None;
  seq = None;
  wal_from = p.header.wal_from;
  live = p.live;
  next_store = p.names.next;
  stores = p.names.rows;
}

-- What is read in the block of a header, which is whole.
pub record TellsHeader (h : Header) (bytes : List ℕ) : Type 0 where
  pub whole : IsTrue (is_block bytes)
  pub kind : IsTrue (is_header bytes)
  pub number : commit_number bytes ≡ h.commit
  pub link : previous_link bytes ≡ link_to h.previous
  pub from : wal_from bytes ≡ h.wal_from

-- what is in memory once a header stands in this block
abbrev pub held_after : Held → ℕ → Held
held_after p at = record p {
  header = header_after p;
  header_at = at;
  blocks = at + 1;
  tail = record { number = at + 1; bytes = [] };
  loose = 0;
  place = p.place + 1;
  next_commit = p.next_commit + 1;
}

-- What a commit leaves: the open block, where it has bytes, and behind it the header, with exactly its bytes.
pub record CommitsFile (told : Bool) (old new : Moment) : Type 0 where
  pub block : Option Block
  pub header : Block
  pub open_block : IsOpenBlock old.held.revision old.held.tail block
  pub is_sealed : IsSealed old.held.revision (old.held.tail.number + length (listed block)) 4 (header_bytes (header_after old.held)) header
  pub tells : TellsHeader (header_after old.held) header.bytes
  pub held : new.held ≡ held_after old.held (old.held.tail.number + length (listed block))
  pub files : IsTrue told → new.disk.files old.held.revision ≡ old.disk.files old.held.revision ++ listed block ++ header ∷ []
  pub shown : IsTrue told → new.file ≡ new.disk.files old.held.revision

-- what a commit gives that has something new and may draw its numbers
abbrev pub CommitGives : Bool → Moment → Moment → Result ℕ Refusal → Type 0
CommitGives told old new result = MatchResult result
    (λ number. (number ≡ old.held.next_commit) × CommitsFile told old new)
    (λ why. (why ≡ DiskFault) × (risen old.host_faults ≤ new.host_faults))

-- nothing that the sequential store sees has changed
pub record Stays (old new : Moment) : Type 0 where
  pub held : new.held ≡ old.held
  pub files : new.disk.files ≡ old.disk.files
  pub file : new.file ≡ old.file

abbrev pub CommitAnswers : Bool → StoreRef → Moment → Moment → Result ℕ Refusal → Type 0
CommitAnswers told at old new result =
    MatchBool at.read_only ((result ≡ Err ReadOnly) × Stays old new)
    (MatchBool (are_same_rows old.held.names.rows old.held.header.stores) ((result ≡ Ok old.held.header.commit) × Stays old new)
    (MatchBool (is_commit_worn old.held || is_far old.held) ((result ≡ Err Worn) × Stays old new) (CommitGives told old new result)))
