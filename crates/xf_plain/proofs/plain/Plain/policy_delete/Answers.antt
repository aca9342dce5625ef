use Rattle.xf_types.specs.PolicyList.{has_key}
use Rattle.xf_plain.proofs.Inserting.{IsKept-without}
use Rattle.xf_plain.proofs.plain.Plain.policy_delete.Goals as goal

pub invariant_of-self : goal.invariant_of-self
invariant_of-self c = record { policies = IsKept-without (has_key c.args.key.now) c.self.inside.policies.items _ _ _ c.self.invariant.policies c.remove_named.ensures; states = c.self.invariant.states; seq = c.self.invariant.seq }
