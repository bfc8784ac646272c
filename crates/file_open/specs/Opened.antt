-- What an open file has in memory once a new store is opened.
use Rattle.std.specs.Prelude.{[], ◌∷◌, false, None}
use Rattle.forest_model.specs.declared.call.Limits.{Limits}
use Rattle.wal_index.specs.Index.{nothing}
use Rattle.file_parts.specs.Held.{Held}
use Rattle.file_image.specs.NewStore.{default_row, new_header}

abbrev pub new_held : Limits → Held
new_held limits = record {
  revision = 1;
  generation = 1;
  blocks = 1;
  header = new_header;
  header_at = 0;
  names = record { rows = default_row 0 0 ∷ []; next = 1 };
  wal = record { entries = nothing; gone = []; room = 0; may_go = false };
  roots = record { key = None; seq = None };
  tail = record { number = 1; bytes = [] };
  loose = 0;
  live = 0;
  limits = limits;
  place = 0;
  next_commit = 1;
  next_ticket = 1;
  copying = None;
  floor = 0;
  stopped = None;
  left = None;
}
