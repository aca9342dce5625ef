-- What clap builds of the commands.
use Rattle.std.proofs.Common.{◌≡◌, ◌∙◌, ◌||◌, ◌++◌, [], ◌∷◌, refl, sym, subst, ap, ap₂, false}
use Rattle.clap.specs.Simple.{App, Shape, app_of, with_subcommand}
use Rattle.clap.specs.Walk.{Rule, rule_of}
use Rattle.clap.specs.Built.{AddsArg, AddsSubcommand}
use Rattle.clap.specs.declared.builder.arg.Arg.{Arg}
use Rattle.clap.specs.declared.builder.command.Command.{Command}
use Rattle.xf_words.specs.Commands.{command_rows}
use Rattle.xf_words.specs.Applications.{HasCommands, IsShaped, app_given}

-- the one place where the tables are looked into
pub has_commands : (a : App) → a ≡ app_given command_rows → HasCommands command_rows a
has_commands a e =
    subst (λ (x : App). HasCommands command_rows x) (sym e)
    (record { is_built = refl; no_name = refl; is_simple = refl; is_free = refl; names = refl })

abbrev with_rule : Shape → Rule → Shape
with_rule s r = record s { rules = s.rules ++ r ∷ [] }

-- one more option
pub arg_added : (old new : Command) (a : Arg) (s : Shape) (r : Rule) → AddsArg old a new → IsShaped old s → rule_of a ≡ r → a.global ≡ false
    → IsShaped new (with_rule s r)
arg_added old new a s r adds is rule local = record {
  shape = ap (λ (x : App). x.top) (adds.shape local) ∙ ap₂ with_rule is.shape rule;
  local = adds.globals ∙ ap₂ (λ x y. x || y) is.local local;
}

-- one more command
pub command_added : (old new sub : Command) (a : App) (s : Shape) → AddsSubcommand old sub new → app_of old ≡ a → IsShaped sub s
    → app_of new ≡ with_subcommand a s
command_added old new sub a s adds is shaped = adds.shape shaped.local ∙ ap₂ with_subcommand is shaped.shape
