use Rattle.std.proofs.Common.{sym, ◌∙◌}
use Rattle.xf_traffic.proofs.Answered.{wants_found, none_there}
use Rattle.xf_traffic.proofs.wanting.wanting.Goals as goal

pub returns-in-None-clause-answer : goal.returns-in-None-clause-answer
returns-in-None-clause-answer c = λ s flow t first allow e.
    absurd (none_there s flow c.args.policy t c.args.place c.args.src c.args.dst e (sym c.in-None.is ∙ c.template_at.ensures))

pub returns-in-Some-clause-answer : goal.returns-in-Some-clause-answer
returns-in-Some-clause-answer c = λ s flow t first allow e.
    wants_found s flow (record { policy = c.args.policy; place = c.args.place; template = c.in-Some.template; src = c.args.src; dst = c.args.dst }) t first allow e
    (sym c.in-Some.is ∙ c.template_at.ensures)
