use Rattle.std.proofs.Common.{◌∙◌}
use Rattle.xf_types.specs.Address.{family_of}
use Rattle.xf_inexact.specs.Bounds.{bins_met, flow_nodes, policies_around}
use Rattle.xf_inexact.specs.Keys.{bin_cost}
use Rattle.xf_inexact.specs.Walks.{bin_walks_cost, chains_cost, first_cost, flow_bin, of_cost, visited}
use Rattle.xf_inexact.proofs.AroundBounds.{first_around}
use Rattle.xf_inexact.proofs.Bests.{best_flat, first_is}
use Rattle.xf_inexact.proofs.Costs.{cost_flat, few_loads, whole_cost}
use Rattle.xf_inexact.proofs.inexact.Inexact.first.Goals as goal

pub returns-clause-loads : goal.returns-clause-loads
returns-clause-loads g c = λ image agrees.
    whole_cost (g.L.Load.loads c.first_there.new.l) (g.L.Load.loads c.args.l.now)
    (bin_cost c.args.self.now image c.args.ptype (family_of c.args.flow.now.dst) c.args.flow.now.dir c.args.flow.now.if_id)
    (bin_walks_cost c.args.self.now image c.args.flow.now (flow_bin c.args.self.now image c.args.ptype c.args.flow.now))
    (chains_cost c.args.self.now image (visited c.args.self.now image c.args.ptype c.args.flow.now))
    (of_cost c.args.self.now image c.args.flow.now (flow_bin c.args.self.now image c.args.ptype c.args.flow.now))
    (c.first_there.ensures.loads image agrees)
    (cost_flat c.args.self.now image c.args.flow.now (flow_bin c.args.self.now image c.args.ptype c.args.flow.now))

pub returns-clause-few : goal.returns-clause-few
returns-clause-few g c = λ image h4 h6 entries part agrees stand.
    few_loads (g.L.Load.loads c.first_there.new.l) (g.L.Load.loads c.args.l.now) (first_cost c.args.self.now image c.args.ptype c.args.flow.now)
    (bins_met c.args.self.now part.trees.trees c.args.ptype c.args.flow.now)
    (flow_nodes c.args.self.now part.trees.trees c.args.flow.now (flow_bin c.args.self.now image c.args.ptype c.args.flow.now))
    (policies_around h4 h6 c.args.ptype c.args.flow.now entries)
    (returns-clause-loads g c image agrees)
    (first_around c.args.self.now image h4 h6 c.args.ptype c.args.flow.now entries part stand c.first_there.ensures.if_id)

pub returns-clause-answer : goal.returns-clause-answer
returns-clause-answer g c = λ image agrees.
    c.first_there.ensures.answer image agrees
    ∙ best_flat c.args.self.now image c.args.ptype c.args.flow.now (flow_bin c.args.self.now image c.args.ptype c.args.flow.now)

pub returns-clause-policy : goal.returns-clause-policy
returns-clause-policy g c = λ image h4 h6 entries agrees part stand order.
    c.first_there.ensures.answer image agrees
    ∙ best_flat c.args.self.now image c.args.ptype c.args.flow.now (flow_bin c.args.self.now image c.args.ptype c.args.flow.now)
    ∙ first_is c.args.self.now image h4 h6 c.args.ptype c.args.flow.now entries part stand order
