use Rattle.std.proofs.Common.{◌∙◌, ap, subst}
use Rattle.xf_image.specs.Policies.{ColumnsStand}
use Rattle.std.specs.Prelude.{◌≤◌, ◌+◌, ◌*◌}
use Rattle.xf_inexact.specs.declared.inexact.Inexact.{Inexact}
use Rattle.xf_inexact.specs.Bounds.{bins_met, flow_nodes, policies_around}
use Rattle.xf_inexact.specs.Holds.{HoldPart}
use Rattle.xf_inexact.specs.Walks.{flow_bin, inexact_first}
use Rattle.xf_spd.proofs.spd.Spd.tree_hit.Goals as goal

pub returns-clause-few : goal.returns-clause-few
returns-clause-few g c = λ image s es h agrees.
    subst (λ (x : Inexact). (part : HoldPart x image s.hthresh4 s.hthresh6 es) → g.L.Load.agrees c.first.new.l image → ColumnsStand x.area image es
    → g.L.Load.loads c.first.new.l ≤ g.L.Load.loads c.args.l.now + 12 + 16 * (bins_met x part.trees.trees c.args.ptype c.args.flow.now + flow_nodes x part.trees.trees c.args.flow.now (flow_bin x image c.args.ptype c.args.flow.now) + policies_around s.hthresh4 s.hthresh6 c.args.ptype c.args.flow.now es))
    c.behind.ensures (c.first.ensures.few image s.hthresh4 s.hthresh6 es) h.part agrees h.list.columns

pub returns-clause-answer : goal.returns-clause-answer
returns-clause-answer g c = λ image agrees.
    c.first.ensures.answer image agrees ∙ ap (λ (x : Inexact). inexact_first x image c.args.ptype c.args.flow.now) c.behind.ensures
