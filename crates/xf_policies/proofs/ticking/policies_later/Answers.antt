use Rattle.std.proofs.Common.{◌∙◌}
use Rattle.xf_policies.proofs.Gathered.{events_counted, later_is}
use Rattle.xf_policies.proofs.ticking.policies_later.Goals as goal

pub returns-clause-count : goal.returns-clause-count
returns-clause-count g c = λ s es st. (c.change_all.ensures.swept s es st).counted ∙ events_counted c.args.now s.policies

pub returns-clause-later : goal.returns-clause-later
returns-clause-later g c = λ s es st.
    later_is c.args.spd.now.area (g.C.Cells.words c.change_all.new.c) c.args.now s es c.change_all.result (c.change_all.ensures.swept s es st)
