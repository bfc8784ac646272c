-- Why an update is refused, by what an open file has in memory, and what it leaves then.
use Rattle.std.specs.Prelude.{◌≡◌, ℕ, ◌+◌, ◌/◌, List, length, Option, nat_lt}
use Rattle.std.specs.Option.{option_map_or}
use Rattle.forest_model.specs.Step.{◌where_holds◌, record_length}
use Rattle.forest_model.specs.Stored.{StoreRow}
use Rattle.forest_model.specs.declared.refusal.Refusal.{Refusal}
use Rattle.forest_model.specs.declared.refusal.Refusal.TheVariants.{FileFull}
use Rattle.kvs_names.specs.Table.{row_with_id}
use Rattle.file_parts.specs.Held.{Held}
use Rattle.file_parts.specs.Moment.{Moment}

-- the sequence number and the count of documents of a store in a table
abbrev pub seq_in : List StoreRow → ℕ → ℕ
seq_in rows id = option_map_or (λ r. r.seq) (row_with_id rows id) 0

abbrev pub documents_in : List StoreRow → ℕ → ℕ
documents_in rows id = option_map_or (λ r. r.documents) (row_with_id rows id) 0

-- the whole blocks that a record needs
abbrev pub blocks_needed : Held → List ℕ → List ℕ → List ℕ → ℕ
blocks_needed p key meta body = (length p.tail.bytes + record_length key meta body) / 4064

-- the file has too few blocks left for so many more
abbrev pub full_cause : Held → ℕ → Option Refusal
full_cause p needed = FileFull p.blocks needed p.limits.max_blocks where_holds nat_lt p.limits.max_blocks (p.blocks + needed + 2)

-- nothing is another but how much memory the index has to spare
pub record OnlyMemory (old new : Moment) : Type 0 where
  pub held : new.held ≡ record old.held { wal = new.held.wal }
  pub entries : new.held.wal.entries ≡ old.held.wal.entries
  pub gone : new.held.wal.gone ≡ old.held.wal.gone
  pub files : new.disk.files ≡ old.disk.files
  pub file : new.file ≡ old.file
