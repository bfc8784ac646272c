-- How words are read, one after another.
use Rattle.std.specs.Prelude.{ℕ, Bool, true, false, ◌==◌, ◌&&◌, not, List, [], ◌∷◌, Option, Some, None, is_some, nat_eq, option_map, option_and_then, if◌then◌else◌, codes}
use Rattle.std.specs.Cmp.Lexicographic.{pointwise}
use Rattle.store_settings.specs.Numbers.{max_of}
use Rattle.store_settings.specs.Profile.{Text, takes, is_operand, Request}
use Rattle.store_settings.specs.declared.words.Command.{Command}
use Rattle.store_settings.specs.declared.words.Command.TheVariants.{Play, New}
use Rattle.store_settings.specs.declared.words.Choice.TheVariants.{Memory, Max}
use Rattle.store_settings.specs.declared.reader.Mode.{Mode}
use Rattle.store_settings.specs.declared.reader.Mode.TheVariants.{Mixed, Value, Operands}
use Rattle.store_settings.specs.declared.reader.Reader.{Reader}
use Rattle.store_settings.specs.declared.token.Token.{Token}
use Rattle.store_settings.specs.declared.token.Token.TheVariants as of_code

-- ---- what a word looks like

abbrev pub command_of : Text → Option Command
command_of word = if pointwise nat_eq word (codes "play") then Some Play else if pointwise nat_eq word (codes "new") then Some New else None

pub data Look : Type 0 where
  dashes : Look
  memory : Look
  max : Look
  max_is : Text → Look
  stray : Look
  plain : Look

-- what stands behind a beginning
abbrev pub behind_of : Text → Text → Option Text
behind_of [] word = Some word
behind_of (b ∷ start) [] = None
behind_of (b ∷ start) (c ∷ word) = if c == b then behind_of start word else None

-- a word that begins with `-` is no operand, and neither is the empty one
abbrev pub plain_or_stray : Text → Look
plain_or_stray [] = stray
plain_or_stray (b ∷ rest) = if b == 45 then stray else plain

abbrev pub joined_or : Option Text → Look → Look
joined_or (Some value) look = max_is value
joined_or None look = look

unfoldable pub look_of : Text → Look
look_of word =
    if pointwise nat_eq word (codes "--") then dashes
    else if pointwise nat_eq word (codes "--memory") then memory
    else if pointwise nat_eq word (codes "--max") then max
    else joined_or (behind_of (codes "--max=") word) (plain_or_stray word)

abbrev pub look_at : Token → Look
look_at of_code.Dashes = dashes
look_at of_code.Memory = memory
look_at of_code.Max = max
look_at (of_code.MaxIs value) = max_is value.now
look_at of_code.Stray = stray
look_at of_code.Plain = plain

-- ---- what is read so far

pub record State : Type 0 where
  pub command : Command
  pub mode : Mode
  pub in_memory : Bool
  pub dir : Option Text
  pub max : Option ℕ

abbrev pub state_of : Reader → State
state_of r = record { command = r.command; mode = r.mode; in_memory = r.in_memory; dir = option_map (λ d. d.now) r.dir; max = r.max }

abbrev pub start : Command → State
start c = record { command = c; mode = Mixed; in_memory = false; dir = None; max = None }

abbrev pub given_if : {A : Type 0} → Bool → A → Option A
given_if test x = if test then Some x else None

abbrev pub with_memory : State → Option State
with_memory s = given_if (takes s.command Memory && not s.in_memory && not (is_some s.dir)) (record s { in_memory = true })

abbrev pub with_dir : State → Text → Option State
with_dir s word = given_if (not s.in_memory && not (is_some s.dir)) (record s { dir = Some word })

abbrev pub takes_max : State → Bool
takes_max s = takes s.command Max && not (is_some s.max)

abbrev pub with_max : State → Text → Option State
with_max s word = option_map (λ n. record s { mode = Mixed; max = Some n }) (max_of word)

abbrev pub mixed : Look → State → Text → Option State
mixed dashes s word = Some (record s { mode = Operands })
mixed memory s word = with_memory s
mixed max s word = given_if (takes_max s) (record s { mode = Value })
mixed (max_is value) s word = if takes_max s then with_max s value else None
mixed stray s word = None
mixed plain s word = with_dir s word

-- one word further
abbrev pub step_in : Mode → State → Text → Option State
step_in Mixed s word = mixed (look_of word) s word
step_in Value s word = with_max s word
step_in Operands s word = if is_operand word then with_dir s word else None

abbrev pub step : State → Text → Option State
step s word = step_in s.mode s word

-- what is asked for where the words end
abbrev pub ended : Mode → State → Option Request
ended Value s = None
ended _ s = if s.in_memory then Some (record { command = s.command; dir = None; max = s.max })
    else option_map (λ d. record { command = s.command; dir = Some d; max = s.max }) s.dir

abbrev pub end : State → Option Request
end s = ended s.mode s

-- the words that are left
unfoldable pub read : State → List Text → Option Request
read s [] = end s
read s (word ∷ words) = option_and_then (λ t. read t words) (step s word)

-- all words
abbrev pub read_all : List Text → Option Request
read_all [] = None
read_all (word ∷ words) = option_and_then (λ c. read (start c) words) (command_of word)
