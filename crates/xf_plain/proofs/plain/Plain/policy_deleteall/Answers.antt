use Rattle.xf_types.specs.PolicyList.{policy_meets}
use Rattle.xf_plain.proofs.Inserting.{IsKept-without}
use Rattle.xf_plain.proofs.plain.Plain.policy_deleteall.Goals as goal

pub invariant_of-self : goal.invariant_of-self
invariant_of-self c = record { policies = IsKept-without (policy_meets c.args.filter.now) c.self.inside.policies.items _ _ _ c.self.invariant.policies c.remove_admitted.ensures; states = c.self.invariant.states; seq = c.self.invariant.seq }
