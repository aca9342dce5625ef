use Rattle.std.proofs.Common.{◌∙◌, Option, IfSome, ap, map, string_bytes, subst, sym}
use Rattle.xf_words.specs.declared.command.Command.{Command}
use Rattle.xf_words.specs.Commands.{IsInRange, asked_of, command_rows}
use Rattle.xf_words.specs.Applications.{Finds}
use Rattle.xf_words.proofs.Ranges.{command_in_range}
use Rattle.xf_words.proofs.reader.read_command.Goals as goal

pub returns-in-Some-clause-exactly : goal.returns-in-Some-clause-exactly
returns-in-Some-clause-exactly c =
    let is = subst (Finds command_rows (map string_bytes c.args.words.now)) c.in-Some.is (c.in_ok-matches-in-Ok.ensures command_rows c.in-Ok.ensures) in
    c.command_from.ensures is.row is.uses is.called is.entries ∙ sym (ap asked_of is.chosen)

pub returns-in-None-clause-exactly : goal.returns-in-None-clause-exactly
returns-in-None-clause-exactly c =
    let none = subst (Finds command_rows (map string_bytes c.args.words.now)) c.in-None.is (c.in_ok-matches-in-Ok.ensures command_rows c.in-Ok.ensures) in
    sym (ap asked_of none)

pub returns-in-Some-clause-range : goal.returns-in-Some-clause-range
returns-in-Some-clause-range c =
    subst (λ (o : Option Command). IfSome o IsInRange) (sym (returns-in-Some-clause-exactly c)) (command_in_range (map string_bytes c.args.words.now))
