use Rattle.std.proofs.Common.{ap, sym, ◌∙◌}
use Rattle.xf_types.specs.Changes.{applied}
use Rattle.xf_types.specs.FlowRules.{acquired}
use Rattle.xf_plain.proofs.Asking.{acquires, contended-asked}
use Rattle.xf_plain.proofs.plain.Plain.flow.Goals as goal

pub returns-in-Answer-clause-settled : goal.returns-in-Answer-clause-settled
returns-in-Answer-clause-settled c = contended-asked c.args.self.now.shown c.args.flow.now c.in-Answer.reply c.in-Answer.ensures

pub returns-in-Wants-clause-answer : goal.returns-in-Wants-clause-answer
returns-in-Wants-clause-answer c done =
    let wanted = c.in-Wants.ensures in
    c.acquire.ensures.answer done
    ∙ ap (applied c.args.self.now)
    (acquires c.args.self.now.shown wanted.policy wanted.template wanted.src wanted.dst c.in-Wants.wanted.spec wanted.asked
    ∙ sym (wanted.answer (λ p t place src dst. acquired c.args.self.now.shown p t src dst)))
