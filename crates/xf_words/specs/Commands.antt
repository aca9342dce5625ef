-- Which lists of words are a command, and which one.
use Rattle.std.specs.Prelude.{ℕ, ◌<◌, ◌-◌, ◌^◌, Bool, true, List, [], ◌∷◌, Option, None, Some, find, codes, option_and_then, option_map}
use Rattle.std.specs.Str.{bytes_eq}
use Rattle.xf_words.specs.declared.command.Command.{Command}
use Rattle.xf_words.specs.declared.command.Command.TheVariants as command
use Rattle.xf_words.specs.Numbers.{Word, number_in}
use Rattle.xf_words.specs.Uses.{OptionRow, Use, uses_of, value_of}

-- a command: its name, its options, and what uses of them ask for
pub record CommandRow : Type 0 where
  pub name : Word
  pub options : List OptionRow
  pub asked : List Use → Option Command

-- ---- the commands

-- `one` has no options
abbrev pub one_row : CommandRow
one_row = record { name = codes "one"; options = []; asked = λ uses. Some command.One }

-- `check` has none either
abbrev pub check_row : CommandRow
check_row = record { name = codes "check"; options = []; asked = λ uses. Some command.Check }

-- `gen` has `--seed`
abbrev pub gen_options : List OptionRow
gen_options = record { name = codes "seed"; has_value = true; is_required = true } ∷ []

-- the number of a value that was given, if it lies between two bounds
abbrev pub number_of : ℕ → ℕ → Option Word → Option ℕ
number_of low high value = option_and_then (number_in low high) value

-- what `gen` asks for, by the value of `--seed`
abbrev pub gen_by : Option Word → Option Command
gen_by seed = option_map command.Gen (number_of 0 (2 ^ 64 - 1) seed)

-- the same by the uses
abbrev pub gen_asked : List Use → Option Command
gen_asked uses = gen_by (value_of (codes "seed") uses)

-- `gen`
abbrev pub gen_row : CommandRow
gen_row = record { name = codes "gen"; options = gen_options; asked = gen_asked }

-- all commands
abbrev pub command_rows : List CommandRow
command_rows = one_row ∷ check_row ∷ gen_row ∷ []

-- ---- from words to a command

-- the command has this name
abbrev pub is_called : Word → CommandRow → Bool
is_called name row = bytes_eq row.name name

-- the command with the uses, if there are any such
abbrev pub with_uses : CommandRow → Option (List Use) → Option (CommandRow × List Use)
with_uses row uses = option_map (λ us. (row, us)) uses

-- the first word names this command, or none
abbrev pub chosen_by : Option CommandRow → List Word → Option (CommandRow × List Use)
chosen_by None rest = None
chosen_by (Some row) rest = with_uses row (uses_of row.options rest)

-- the command that the first word names, and the uses that the others make of its options
abbrev pub chosen_of : List CommandRow → List Word → Option (CommandRow × List Use)
chosen_of rows [] = None
chosen_of rows (first ∷ rest) = chosen_by (find (is_called first) rows) rest

-- what is asked for
abbrev pub asked_of : Option (CommandRow × List Use) → Option Command
asked_of chosen = option_and_then (λ p. p.0.asked p.1) chosen

-- the command that the words are; None where they are none
abbrev pub command_of : List Word → Option Command
command_of words = asked_of (chosen_of command_rows words)

-- the numbers of a command are in their ranges
abbrev pub IsInRange : Command → Type 0
IsInRange command.One = Unit {0}
IsInRange command.Check = Unit {0}
IsInRange (command.Gen seed) = seed < 2 ^ 64
