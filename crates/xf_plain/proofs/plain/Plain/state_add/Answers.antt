use Rattle.std.proofs.Common.{ap, sym, ◌∙◌}
use Rattle.std.specs.Prelude.{None, Some, option_copied}
use Rattle.xf_types.specs.Machine.{Machine}
use Rattle.xf_plain.proofs.Adding.{adds}
use Rattle.xf_plain.proofs.plain.Plain.state_add.Goals as goal

pub returns-in-Some-clause-answer : goal.returns-in-Some-clause-answer
returns-in-Some-clause-answer c done =
    adds c.args.self.now c.self.inside.states.states c.args.spec.now c.larval_replaced-replaced.result (Some c.in-Some.old.now)
    c.id_of.result (ap (λ (m : Machine). m.shown.states) c.self.view_is) c.larval_replaced-replaced.ensures c.id_of.ensures
    (sym (ap option_copied c.in-Some.is) ∙ c.latest_but.ensures)

pub returns-in-None-clause-answer : goal.returns-in-None-clause-answer
returns-in-None-clause-answer c done =
    c.add_if_room.ensures.answer done
    ∙ adds c.args.self.now c.self.inside.states.states c.args.spec.now c.larval_replaced-replaced.result None c.id_of.result
    (ap (λ (m : Machine). m.shown.states) c.self.view_is) c.larval_replaced-replaced.ensures c.id_of.ensures
    (sym (ap option_copied c.in-None.is) ∙ c.latest_but.ensures)
