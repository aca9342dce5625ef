-- What of clap stands for the commands and their options.
use Rattle.std.specs.Prelude.{◌≡◌, ℕ, Bool, true, false, not, ◌&&◌, List, [], ◌∷◌, map, Option, None, Some, is_some, codes, Result, Ok, Err}
use Rattle.std.specs.List.{fold, find, list_all}
use Rattle.clap.specs.Walk.{Row, Rule, Text, is_empty, with_default}
use Rattle.clap.specs.Simple.{App, Shape, built, is_simple, new_rule, new_shape, shape_of, subcommand_rows_of}
use Rattle.clap.specs.Faults.{is_simple_and_free}
use Rattle.clap.specs.declared.builder.action.ArgAction.{ArgAction}
use Rattle.clap.specs.declared.builder.action.ArgAction.TheVariants.{Set, SetTrue}
use Rattle.clap.specs.declared.builder.command.Command.{Command}
use Rattle.clap.specs.declared.builder.command.Command.TheViews.{out-Command as fields_of}
use Rattle.clap.specs.declared.builder.value_parser.ValueParser.{ValueParser}
use Rattle.clap.specs.declared.builder.value_parser.ValueParser.TheVariants as parser
use Rattle.clap.specs.declared.builder.value_parser.Reading.TheVariants as reading
use Rattle.clap.specs.declared.parser.matches.ArgMatches.{ArgMatches}
use Rattle.clap.specs.declared.parser.matches.ValueSource.TheVariants.{CommandLine}
use Rattle.xf_words.specs.Numbers.{Word}
use Rattle.xf_words.specs.Uses.{OptionRow, Use, begins_with_hyphen, option_text}
use Rattle.xf_words.specs.Commands.{CommandRow, is_called, chosen_of}

-- a word that no command has: it begins with a hyphen and is not `--text`
abbrev pub is_stray : Word → Bool
is_stray word = begins_with_hyphen word && not (is_some (option_text word))

-- ---- what clap is given

-- an option has a value unless something else is said
abbrev pub action_given : Bool → Option ArgAction
action_given true = None
action_given false = Some SetTrue

-- an option
abbrev pub rule_given : OptionRow → Rule
rule_given o = record (new_rule o.name) {
  long = Some o.name;
  action = action_given o.has_value;
  required = o.is_required;
}

-- a command
abbrev pub shape_given : CommandRow → Shape
shape_given row = record (new_shape row.name) { rules = map rule_given row.options }

-- clap's command has this shape, and passes no option on to commands below it
pub record IsShaped (c : Command) (s : Shape) : Type 0 where
  pub shape : shape_of c ≡ s
  pub local : (fields_of c).has_globals ≡ false

-- the program, which has these commands
abbrev pub app_given : List CommandRow → App
app_given rows = record {
  top = record (new_shape (codes "xfrm")) {
    is_leaf = is_empty rows;
    no_binary_name = true;
    disable_help_flag = true;
    disable_help_subcommand = true;
    subcommand_required = true;
  };
  subs = map shape_given rows;
}

-- ---- what clap builds of it

-- it sets its value once
abbrev pub action_built : Bool → ArgAction
action_built true = Set
action_built false = SetTrue

-- any text is a value
abbrev pub parser_built : Bool → ValueParser
parser_built true = parser.String
parser_built false = parser.Bool

-- how many values belong to the option
abbrev pub count_built : Bool → ℕ
count_built true = 1
count_built false = 0

-- what an option without a value stands at where it isn't used
abbrev pub defaults_built : Bool → List Text
defaults_built true = []
defaults_built false = codes "false" ∷ []

-- and where it is used
abbrev pub missing_built : Bool → List Text
missing_built true = []
missing_built false = codes "true" ∷ []

-- an option
abbrev pub rule_built : OptionRow → Rule
rule_built o = record (new_rule o.name) {
  long = Some o.name;
  action = Some (action_built o.has_value);
  range = Some (record { start_inclusive = count_built o.has_value; end_inclusive = count_built o.has_value });
  defaults = defaults_built o.has_value;
  missing = missing_built o.has_value;
  parser = Some (parser_built o.has_value);
  required = o.is_required;
}

-- a command with these options
abbrev pub level_built : Text → List OptionRow → Shape
level_built name options = record (new_shape name) {
  rules = map rule_built options;
  no_binary_name = true;
  disable_help_flag = true;
  disable_help_subcommand = true;
  is_built = true;
}

-- a command
abbrev pub shape_built : CommandRow → Shape
shape_built row = level_built row.name row.options

-- the program, at its first word
abbrev pub top_built : Shape
top_built = record (new_shape (codes "xfrm")) {
  is_leaf = false;
  no_binary_name = true;
  disable_help_flag = true;
  disable_help_subcommand = true;
  subcommand_required = true;
  is_built = true;
}

-- the program with its commands
abbrev pub app_built : List CommandRow → App
app_built rows = record { top = top_built; subs = map shape_built rows }

-- clap builds the program with these commands, and its contract tells exactly which words it takes
pub record HasCommands (rows : List CommandRow) (a : App) : Type 0 where
  pub is_built : built a ≡ app_built rows
  pub no_name : a.top.no_binary_name ≡ true
  pub is_simple : is_simple a ≡ true
  pub is_free : is_simple_and_free a ≡ true
  pub names : list_all (λ row. not (is_stray row.name)) rows ≡ true

-- ---- what clap finds

-- the entry of a use
abbrev pub entry_of : Use → Row
entry_of u = record {
  id = u.option.name;
  values = u.value ∷ [];
  count = None;
  source = Some CommandLine;
  reading = reading.AsWritten;
}

-- the entries of the uses, and of the defaults
abbrev pub entries_of : List OptionRow → List Use → List Row
entries_of options uses = fold with_default (map entry_of uses) (map rule_built options)

-- the words choose a command, and what was found is its name with the entries of the uses
pub record IsFound (rows : List CommandRow) (words : List Word) (m : ArgMatches) : Type 0 where
  pub row : CommandRow
  pub uses : List Use
  pub chosen : chosen_of rows words ≡ Some (row, uses)
  pub called : find (is_called row.name) rows ≡ Some row
  pub entries : subcommand_rows_of m ≡ Some (row.name, entries_of row.options uses)

-- nothing was found exactly where the words choose none
abbrev pub Finds : List CommandRow → List Word → Option ArgMatches → Type 0
Finds rows words None = chosen_of rows words ≡ None
Finds rows words (Some m) = IsFound rows words m

-- what a parse of the words answers, want of memory aside
abbrev pub Parses : {E : Type 0} → List CommandRow → List Word → Result (Option ArgMatches) E → Type 0
Parses rows words (Ok found) = Finds rows words found
Parses rows words (Err e) = Unit {0}
