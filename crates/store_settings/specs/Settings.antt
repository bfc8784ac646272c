-- What settings say, over the members of a TOML document.
use Rattle.std.specs.Prelude.{ℕ, pos, Bool, true, false, ◌&&◌, ◌||◌, nat_eq, if◌then◌else◌, List, Option, Some, None, option_and_then, codes}
use Rattle.std.specs.Cmp.Lexicographic.{pointwise}
use Rattle.toml.specs.Data.{Data, integer, boolean, Members, no_members, member, get_member}
use Rattle.store_settings.specs.Numbers.{within}
use Rattle.store_settings.specs.declared.settings.Settings.{Settings}

abbrev pub is_key : List ℕ → Bool
is_key key = pointwise nat_eq key (codes "wal") || pointwise nat_eq key (codes "max_blocks")
    || pointwise nat_eq key (codes "daemon") || pointwise nat_eq key (codes "compact_percent")

-- every key is one of the four
unfoldable pub has_known_keys : Members → Bool
has_known_keys no_members = true
has_known_keys (member key value rest) = is_key key && has_known_keys rest

-- a number in its range
abbrev pub number_in : ℕ → ℕ → Data → Option ℕ
number_in least most (integer (pos n)) = within least most n
number_in least most _ = None

abbrev pub truth_in : Data → Option Bool
truth_in (boolean b) = Some b
truth_in _ = None

-- what a key says, or a default where it isn't there
abbrev pub said_or : {A : Type 0} → A → (Data → Option A) → Option Data → Option A
said_or default read None = Some default
said_or default read (Some value) = read value

abbrev pub wal_of : Members → Option ℕ
wal_of members = said_or 4096 (number_in 1 65536) (get_member (codes "wal") members)

abbrev pub max_blocks_of : Members → Option ℕ
max_blocks_of members = said_or 4294967296 (number_in 16 4294967296) (get_member (codes "max_blocks") members)

abbrev pub daemon_of : Members → Option Bool
daemon_of members = said_or false truth_in (get_member (codes "daemon") members)

abbrev pub percent_of : Members → Option ℕ
percent_of members = said_or 30 (number_in 1 99) (get_member (codes "compact_percent") members)

abbrev pub values_of : Members → Option Settings
values_of members =
    option_and_then (λ wal. option_and_then (λ max_blocks. option_and_then (λ daemon. option_and_then (λ percent.
    Some (record { wal = wal; max_blocks = max_blocks; daemon = daemon; compact_percent = percent }))
    (percent_of members)) (daemon_of members)) (max_blocks_of members)) (wal_of members)

-- the settings that a document's members say, if they do
abbrev pub settings_of : Members → Option Settings
settings_of members = if has_known_keys members then values_of members else None
