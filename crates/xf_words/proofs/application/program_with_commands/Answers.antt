use Rattle.xf_words.proofs.Built.{command_added, has_commands}
use Rattle.xf_words.proofs.application.program_with_commands.Goals as goal

pub returns : goal.returns
returns c =
    let one = command_added _ _ _ _ _ c.in_ok-command.ensures c.program.ensures c.bare.ensures in
    let check = command_added _ _ _ _ _ c.in_ok-command-2.ensures one c.bare-2.ensures in
    has_commands _ (command_added _ _ _ _ _ c.in_ok-command-3.ensures check c.in_ok-generate.ensures)
