-- When a compaction is due.
use Rattle.std.specs.Prelude.{ℕ, ◌+◌, ◌-◌, ◌*◌, ◌/◌, Bool, ◌&&◌, not, nat_le, nat_lt, if◌then◌else◌}
use Rattle.compact_policy.specs.declared.Layout4.{Layout4}

-- the blocks that a file had just after the last switch, and before one as many as its live records fill, and one for the
-- header
abbrev pub floor_of : Layout4 → ℕ
floor_of file = if nat_lt 0 file.floor then file.floor else (file.live + 4063) / 4064 + 1

-- how much of a file stands above its floor, in whole percent of its blocks
abbrev pub percentage : Layout4 → ℕ
percentage file = if nat_le file.blocks (floor_of file) then 0 else (file.blocks - floor_of file) * 100 / file.blocks

-- No compaction is running, the file has 64 blocks or more, and so much of it stands above its floor.
abbrev pub is_due : Layout4 → ℕ → Bool → Bool
is_due file percent copying = not copying && nat_le 64 file.blocks && nat_le percent (percentage file)
