use Rattle.std.proofs.Common.{◌∙◌}
use Rattle.xf_sad.proofs.Rules.{replaced_is}
use Rattle.xf_sad.proofs.sad.Sad.replaced.Goals as goal

pub returns-clause-state : goal.returns-clause-state
returns-clause-state g c = λ image s es agrees st.
    c.larval_slot.ensures.answer image agrees ∙ replaced_is c.args.self.now.area image s es c.args.spec.now st
