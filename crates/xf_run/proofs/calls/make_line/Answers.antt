use Rattle.std.proofs.Common.{sym}
use Rattle.xf_run.proofs.Making.{one_made}
use Rattle.xf_run.proofs.calls.make_line.Goals as goal

pub returns-in_ok-refused-in-One-clause-ok : goal.returns-in_ok-refused-in-One-clause-ok
returns-in_ok-refused-in-One-clause-ok g c =
    let call = c.in_ok-refused-in-One.ensures.ok in
    rw (sym call.refusal, c.in-One.is)
    (one_made c.args.task.now.line _ c.args.machine.now c.make_call.new.machine call.reply _ _ call.made)
