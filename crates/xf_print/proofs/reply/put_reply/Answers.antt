-- The line of an accepted packet is the text that was put.
use Rattle.xf_print.specs.Replies.{reply_text}
use Rattle.xf_print.proofs.reply.put_reply.Goals as goal

pub returns-in-Accepted : goal.returns-in-Accepted
unfolding reply_text
returns-in-Accepted c = rw c.in-Accepted.is c.put_top.ensures
