use Rattle.xf_sad.proofs.Updates.{plain_fault}
use Rattle.xf_sad.proofs.laws.reply_laws.Goals as goal

pub returns : goal.returns
returns c = plain_fault
