-- What the sequential store reads of a file: the kinds of its blocks, its headers by their links, and the bytes in its record blocks.
use Rattle.std.specs.Prelude.{ℕ, ◌+◌, ◌-◌, suc, zero, List, [], length, take, drop, filter, Option, Some, None, Bool, ◌&&◌, ◌||◌, ◌==◌, nat_lt, slice_index, slice_index_or, slice_range, if◌then◌else◌}
use Rattle.std.specs.List.{flat_map, list_all}
use Rattle.std.specs.Option.{option_map_or}
use Rattle.std.specs.Int.{w16, w64, from_be_bytes}

-- a block by its bytes, and a file as its blocks
abbrev pub Block : Type 0
Block = List ℕ

abbrev pub File : Type 0
File = List Block

-- 4,096 bytes
abbrev pub is_block : Block → Bool
is_block block = (length block == 4096) && list_all (λ b. nat_lt b 256) block

-- numbers of a block by their first byte
abbrev pub long_at : List ℕ → ℕ → ℕ
long_at bytes at = from_be_bytes w64 (slice_range bytes at (at + 8))

abbrev pub short_at : List ℕ → ℕ → ℕ
short_at bytes at = from_be_bytes w16 (slice_range bytes at (at + 2))

abbrev pub kind_of : Block → ℕ
kind_of block = slice_index block 4064

abbrev pub is_records : Block → Bool
is_records block = kind_of block == 1

abbrev pub is_page : Block → Bool
is_page block = (kind_of block == 2) || (kind_of block == 3)

abbrev pub is_header : Block → Bool
is_header block = kind_of block == 4

abbrev pub block_at : File → ℕ → Block
block_at file at = slice_index_or file at []

-- a header's commit number, its previous header as an optional block, and the block from which its records count
abbrev pub commit_number : Block → ℕ
commit_number header = long_at header 0

abbrev pub previous_link : Block → ℕ
previous_link header = long_at header 16

abbrev pub wal_from : Block → ℕ
wal_from header = long_at header 40

-- the last header below a block
unfoldable pub header_below : File → ℕ → Option ℕ
header_below file zero = None
header_below file (suc at) = if is_header (block_at file at) then Some at else header_below file at

abbrev pub last_header : File → Option ℕ
last_header file = header_below file (length file)

-- the header of a commit, from a header on along previous links, of which so many are followed at most
unfoldable pub header_of : File → ℕ → ℕ → Option ℕ → Option ℕ
header_of file number links None = None
header_of file number zero (Some at) = None
header_of file number (suc links) (Some at) =
    if commit_number (block_at file at) == number then Some at
    else header_of file number links (if previous_link (block_at file at) == 0 then None else Some (previous_link (block_at file at) - 1))

abbrev pub header_numbered : File → ℕ → Option ℕ
header_numbered file number = header_of file number (length file) (last_header file)

-- the record blocks from a block up to, not including, another
abbrev pub record_blocks : File → ℕ → ℕ → File
record_blocks file from to = filter is_records (slice_range file from to)

-- the record blocks of the commit with this number that its trees don't hold
abbrev pub blocks_of_commit : File → ℕ → File
blocks_of_commit file number =
    option_map_or (λ at. record_blocks file (wal_from (block_at file at)) at) (header_numbered file number) []

abbrev pub blocks_to_copy : File → ℕ → ℕ
blocks_to_copy file number = length (blocks_of_commit file number)

-- the record blocks behind the last header, which are those of uncommitted updates
abbrev pub uncommitted_blocks : File → File
uncommitted_blocks file = filter is_records (drop (option_map_or suc (last_header file) 0) file)

-- how many bytes of a block are in use, and these
abbrev pub in_use : Block → ℕ
in_use block = short_at block 4066

abbrev pub used_bytes : Block → List ℕ
used_bytes block = take (in_use block) block

-- the bytes of the records in the record blocks
abbrev pub stored_bytes : File → List ℕ
stored_bytes file = flat_map used_bytes (filter is_records file)

-- a record block with this many bytes of records, and one that has no room left
abbrev pub is_records_of : ℕ → Block → Bool
is_records_of bytes block = is_records block && (in_use block == bytes)

abbrev pub is_full : Block → Bool
is_full = is_records_of 4064
