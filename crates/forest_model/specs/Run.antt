-- The run of a script's lines over a session and the blocks of the current file.
use Rattle.std.specs.Prelude.{◌≡◌, ℕ, suc, ◌+◌, ◌^◌, ◌<◌, ◌≤◌, ◌⊎◌, Bool, ◌||◌, ◌==◌, List, [], ◌∷◌, ◌++◌, length, drop, map, filter, Option, Some, None, IsTrue, MatchBool, MatchOption, if◌then◌else◌}
use Rattle.std.specs.List.{list_all, flat_map}
use Rattle.std.specs.Option.{option_map_or}
use Rattle.std.specs.FinMap as finite
use Rattle.forest_model.specs.Key.{key_cmp}
use Rattle.forest_model.specs.Documents.{key_at}
use Rattle.forest_model.specs.Records.{record_bytes, is_record}
use Rattle.forest_model.specs.Blocks.{Block, File, block_at, last_header, header_numbered, is_block, is_records, is_records_of, is_full, is_page, is_header, commit_number, previous_link, wal_from, used_bytes, stored_bytes, blocks_of_commit, uncommitted_blocks}
use Rattle.forest_model.specs.Step.{needed}
use Rattle.forest_model.specs.Session.{Session, call_in, IsTurn}
use Rattle.forest_model.specs.declared.call.Call.{Call}
use Rattle.forest_model.specs.declared.call.Call.TheVariants as calls
use Rattle.forest_model.specs.declared.line.Line.{Line}
use Rattle.forest_model.specs.declared.line.Told.{Told}
use Rattle.forest_model.specs.declared.state.State.{State}
use Rattle.forest_model.specs.declared.stored.Rec.{Rec}

-- so many full record blocks behind the file
pub record AddsRecords (n : ℕ) (file after : File) : Type 0 where
  pub records : File
  pub all : after ≡ file ++ records
  pub count : length records ≡ n
  pub whole : IsTrue (list_all is_block records)
  pub full : IsTrue (list_all is_full records)

-- a place in a header's field: 0 for none, else one more than the block
abbrev pub link_to : Option ℕ → ℕ
link_to at = option_map_or suc at 0

-- the first block whose records the trees of the last header don't hold
abbrev pub unflushed_from : File → ℕ
unflushed_from file = option_map_or (λ at. wal_from (block_at file at)) (last_header file) 0

-- how many different pairs of store and key are set or deleted by records
abbrev pub names_key : Rec → Bool
names_key r = (r.kind == 1) || (r.kind == 2)

unfoldable pub pairs_named : List Rec → ℕ
pairs_named records = finite.len {X = ℕ} (finite.from_entries {R = key_cmp} (map (λ r. (key_at r.store r.key, 0)) (filter names_key records)))

-- The records from the block on that the last header names, one after another, name at least the threshold of different pairs.
pub record IsFlushDue (s : State) (file : File) : Type 0 where
  pub records : List Rec
  pub are_records : IsTrue (list_all is_record records)
  pub all : stored_bytes (drop (unflushed_from file) file) ≡ flat_map record_bytes records
  pub due : s.limits.threshold ≤ pairs_named records

-- The open block where it has bytes, nodes and stems of a flush, and the header, which names the header before it.
pub record AddsCommit (s : State) (file after : File) : Type 0 where
  pub records : File
  pub pages : File
  pub header : Block
  pub all : after ≡ file ++ records ++ pages ++ header ∷ []
  pub whole : IsTrue (list_all is_block (records ++ pages ++ header ∷ []))
  pub open_block : length records ≡ (if s.loose == 0 then 0 else 1)
  pub kind : IsTrue (list_all (is_records_of s.loose) records)
  -- only where it is due and has room
  pub flushed : 0 < length pages → IsFlushDue s (file ++ records) × (length after ≤ s.limits.max_blocks)
  pub page_kind : IsTrue (list_all is_page pages)
  pub header_kind : IsTrue (is_header header)
  pub number : commit_number header ≡ s.next_commit
  pub link : previous_link header ≡ link_to (last_header file)
  pub from : (wal_from header ≡ unflushed_from file) ⊎ (IsFlushDue s (file ++ records) × (wal_from header ≡ length after))

-- The record blocks of the commit's own once more, byte for byte of their records, and its header, which names the one before it.
pub record AddsRollback (number : ℕ) (file after : File) : Type 0 where
  pub records : File
  pub header : Block
  pub all : after ≡ file ++ records ++ header ∷ []
  pub whole : IsTrue (list_all is_block (records ++ header ∷ []))
  pub kind : IsTrue (list_all is_records records)
  pub copied : map used_bytes records ≡ map used_bytes (blocks_of_commit file number)
  pub header_kind : IsTrue (is_header header)
  pub number_of : commit_number header ≡ number
  pub link : previous_link header ≡ option_map_or (λ at. previous_link (block_at file at)) (header_numbered file number) 0
  pub from : wal_from header ≡ (if length records == 0 then length after else length file)

-- The new file of a switch: records and pages, the last commit's header, which keeps no previous one, and behind it the
-- whole record blocks of uncommitted updates once more, byte for byte of their records.
pub record IsNewFile (s : State) (file after : File) : Type 0 where
  pub below : File
  pub header : Block
  pub behind : File
  pub all : after ≡ below ++ header ∷ behind
  pub whole : IsTrue (list_all is_block after)
  pub at_most : length after ≤ 2 ^ 40
  pub kinds : IsTrue (list_all (λ b. is_records b || is_page b) below)
  pub header_kind : IsTrue (is_header header)
  pub number : commit_number header ≡ s.last.number
  pub first : previous_link header ≡ 0
  pub from : wal_from header ≡ length below + 1
  pub full : IsTrue (list_all is_full behind)
  pub copied : map used_bytes behind ≡ map used_bytes (uncommitted_blocks file)

-- the blocks that an update leaves
abbrev pub Grows : State → File → Call → File → Type 0
Grows s file (calls.Commit at) after = AddsCommit s file after
Grows s file (calls.Switch at ticket left) after = IsNewFile s file after
Grows s file (calls.Rollback at number) after = AddsRollback number file after
Grows s file call after = MatchOption (needed s file call) (after ≡ file) (λ n. AddsRecords n file after)

-- an update raises the place by one
abbrev pub is_update : State → State → Bool
is_update before after = after.place == before.place + 1

-- the blocks of the current file after a line: those before it, unless its call was an update
abbrev pub FileAfter : State → File → Option Call → State → File → Type 0
FileAfter before file None after grown = grown ≡ file
FileAfter before file (Some call) after grown = MatchBool (is_update before after) (Grows before file call grown) (grown ≡ file)

-- The lines in their order, from a session and a file to what is told, and the session and file after them.
abbrev pub Run : Session → File → List Line → List Told → Session → File → Type 0
Run w file [] [] after last = (after ≡ w) × (last ≡ file)
Run w file (line ∷ lines) (t ∷ ts) after last =
    (next : Session) × (grown : File) × IsTurn w file line next t
    × FileAfter w.state file (call_in w line) next.state grown × Run next grown lines ts after last
Run w file [] (t ∷ ts) after last = ⊥
Run w file (line ∷ lines) [] after last = ⊥
