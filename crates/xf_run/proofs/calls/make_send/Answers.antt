use Rattle.xf_run.proofs.Making.{send_made}
use Rattle.xf_run.proofs.calls.make_send.Goals as goal

pub returns-clause-ok : goal.returns-clause-ok
returns-clause-ok g c =
    rw c.is_refusal.ensures
    (send_made c.args.line c.args.len c.args.flow c.args.machine.now c.step-reply.new.self c.make_outputs.new.machine
    c.step-reply.result c.in_ok-refused.refused _ _ _
    (record { may = record { answer = c.step-reply.ensures.answer; memory = c.step-reply.ensures.memory; settled = c.step-reply.ensures.settled }; heard = c.in_ok-tell.ensures })
    (rw c.path.ensures.path at c.in_ok-refused.ensures.ok))
