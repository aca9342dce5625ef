use Rattle.std.proofs.Common.{refl, sym}
use Rattle.xf_policies.proofs.Others.{listed_same}
use Rattle.xf_policies.proofs.setting.policy_set.Goals as goal

pub returns-clause-slots : goal.returns-clause-slots
returns-clause-slots g c = λ s es st.
    sym (listed_same c.args.spd.now.area (g.C.Cells.words c.args.c.now) (g.C.Cells.words c.set.new.c) s _ es st (c.set.ensures.stands s es st))

pub returns-clause-answer : goal.returns-clause-answer
returns-clause-answer g c = λ s es st. record { reply = refl; entries = es; stands = c.set.ensures.stands s es st }

pub returns-clause-stands : goal.returns-clause-stands
returns-clause-stands g c = λ s es st. c.set.ensures.stands s es st
