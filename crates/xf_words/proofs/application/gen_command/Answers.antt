use Rattle.xf_words.proofs.Built.{arg_added}
use Rattle.xf_words.proofs.application.gen_command.Goals as goal

pub returns : goal.returns
returns c = arg_added _ _ _ _ _ c.in_ok-command.ensures c.bare.ensures c.valued.ensures.rule c.valued.ensures.local
