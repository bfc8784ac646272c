-- The profile of words: which words the program takes, and what they ask for.
use Rattle.std.specs.Prelude.{◌≡◌, ℕ, ◌+◌, Bool, true, false, ◌==◌, ◌&&◌, not, List, [], ◌∷◌, ◌++◌, Option, Some, None, is_some, if◌then◌else◌, codes}
use Rattle.std.specs.List.{list_all}
use Rattle.std.specs.Fmt.{decimal}
use Rattle.forest_model.specs.declared.call.Limits.{Limits}
use Rattle.store_settings.specs.Numbers.{is_max}
use Rattle.store_settings.specs.declared.words.Asked.{Asked}
use Rattle.store_settings.specs.declared.words.Command.{Command}
use Rattle.store_settings.specs.declared.words.Command.TheVariants.{Play, New}
use Rattle.store_settings.specs.declared.words.Choice.{Choice}
use Rattle.store_settings.specs.declared.words.Choice.TheVariants.{Memory, Max}
use Rattle.store_settings.specs.declared.words.Place.{Place}
use Rattle.store_settings.specs.declared.words.Place.TheVariants as place
use Rattle.store_settings.specs.declared.words.Where.{Where}
use Rattle.store_settings.specs.declared.words.Where.TheVariants as lies

abbrev pub Text : Type 0
Text = List ℕ

-- ---- the table of subcommands

-- the word of a subcommand
abbrev pub command_word : Command → Text
command_word Play = codes "play"
command_word New = codes "new"

-- the options of a subcommand; each has one operand, DIR
abbrev pub takes : Command → Choice → Bool
takes Play choice = true
takes New choice = false

-- ---- options and operands

-- one of the things that stand in any mixture before `--`: an operand, `--memory`, `--max=N`, or `--max N`
pub data Part : Type 0 where
  operand : Text → Part
  memory : Part
  max_joined : ℕ → Part
  max_apart : ℕ → Part

-- the words of each
abbrev pub spelled : Part → List Text
spelled (operand word) = word ∷ []
spelled memory = codes "--memory" ∷ []
spelled (max_joined n) = (codes "--max=" ++ decimal n) ∷ []
spelled (max_apart n) = codes "--max" ∷ decimal n ∷ []

-- a word that is neither empty nor `-` alone
abbrev pub is_operand : Text → Bool
is_operand [] = false
is_operand (b ∷ []) = not (b == 45)
is_operand (b ∷ c ∷ rest) = true

-- a word that is not empty and doesn't begin with `-`
abbrev pub is_plain : Text → Bool
is_plain [] = false
is_plain (b ∷ rest) = not (b == 45)

-- an operand doesn't look like an option, an option is one of the subcommand, and its number lies in its range
abbrev pub is_part : Command → Part → Bool
is_part c (operand word) = is_plain word
is_part c memory = takes c Memory
is_part c (max_joined n) = takes c Max && is_max n
is_part c (max_apart n) = takes c Max && is_max n

-- ---- a line of words

-- the words of some parts, one after another
abbrev pub all_spelled : List Part → List Text
all_spelled [] = []
all_spelled (p ∷ ps) = spelled p ++ all_spelled ps

-- what follows the parts: nothing, or `--` and operands
abbrev pub ending : Option (List Text) → List Text
ending None = []
ending (Some words) = codes "--" ∷ words

-- the operands behind `--`
abbrev pub behind : Option (List Text) → List Text
behind None = []
behind (Some words) = words

-- the operands among some parts, in their order
abbrev pub operands : List Part → List Text
operands [] = []
operands (operand word ∷ ps) = word ∷ operands ps
operands (memory ∷ ps) = operands ps
operands (max_joined n ∷ ps) = operands ps
operands (max_apart n ∷ ps) = operands ps

-- how often `--memory` is among them
abbrev pub memories : List Part → ℕ
memories [] = 0
memories (operand word ∷ ps) = memories ps
memories (memory ∷ ps) = memories ps + 1
memories (max_joined n ∷ ps) = memories ps
memories (max_apart n ∷ ps) = memories ps

-- the numbers that `--max` is given among them
abbrev pub maxima : List Part → List ℕ
maxima [] = []
maxima (operand word ∷ ps) = maxima ps
maxima (memory ∷ ps) = maxima ps
maxima (max_joined n ∷ ps) = n ∷ maxima ps
maxima (max_apart n ∷ ps) = n ∷ maxima ps

-- ---- what words ask for

-- a subcommand; DIR, or none for the store in memory; and the number of `--max`, where it is given
pub record Request : Type 0 where
  pub command : Command
  pub dir : Option Text
  pub max : Option ℕ

-- none or one
abbrev pub listed : {A : Type 0} → Option A → List A
listed None = []
listed (Some x) = x ∷ []

-- `--memory` stands once where DIR doesn't, and not where it does
abbrev pub memory_count : Option Text → ℕ
memory_count dir = if is_some dir then 0 else 1

-- The words are the subcommand's, then options and operands in any mixture, then perhaps `--` and operands. All operands
-- are DIR, or there are none and `--memory` stands once; and `--max` stands at most once.
pub record AskFor (words : List Text) (request : Request) : Type 0 where
  pub parts : List Part
  pub last : Option (List Text)
  pub words_are : words ≡ command_word request.command ∷ (all_spelled parts ++ ending last)
  pub parts_are : list_all (is_part request.command) parts ≡ true
  pub last_are : list_all is_operand (behind last) ≡ true
  pub place : operands parts ++ behind last ≡ listed request.dir
  pub memory_once : memories parts ≡ memory_count request.dir
  pub max_once : maxima parts ≡ listed request.max

-- Words in the profile ask for something.
abbrev pub AreWords : List Text → Type 0
AreWords words = (request : Request) × AskFor words request

-- ---- what a reading gives

abbrev pub dir_of : Place → Option Text
dir_of place.Memory = None
dir_of (place.Dir word) = Some word.now

abbrev pub request_of : Asked → Request
request_of a = record { command = a.command; dir = dir_of a.place; max = a.max }

-- the limits of a request: 2^32 blocks where `--max` isn't given, and a flush from 4,096 entries on
abbrev pub limits_of : Option ℕ → Limits
limits_of None = record { max_blocks = 4294967296; threshold = 4096 }
limits_of (Some max) = record { max_blocks = max; threshold = 4096 }

-- where the store lies for DIR, and for none
abbrev pub where_of : Option Text → Where
where_of None = lies.Memory
where_of (Some dir) = lies.Dir dir
