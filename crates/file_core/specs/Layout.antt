-- Where a file stands, as an operator sees it.
use Rattle.std.specs.Prelude.{ℕ, ◌+◌, ◌/◌, nat_lt, if◌then◌else◌}
use Rattle.std.specs.FinMap as finite
use Rattle.file_parts.specs.Held.{Held}
use Rattle.file_core.specs.declared.state.Layout.{Layout}

-- the floor of a file: the blocks that it had just after the last switch, and before one as many as the live records fill,
-- and one for a header
abbrev pub floor_in : ℕ → ℕ → ℕ
floor_in floor live = if nat_lt 0 floor then floor else (live + 4063) / 4064 + 1

-- where a file stands
abbrev pub layout_of : Held → Layout
layout_of p = record {
  revision = p.revision;
  generation = p.generation;
  blocks = p.blocks;
  wal_from = p.header.wal_from;
  pending = finite.len p.wal.entries;
  live = p.live;
  floor = floor_in p.floor p.live;
  left = p.left;
}
