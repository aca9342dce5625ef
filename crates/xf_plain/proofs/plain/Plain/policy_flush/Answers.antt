use Rattle.xf_types.specs.declared.policy.Policy.{Policy}
use Rattle.xf_types.specs.Same.{meets_one, same_ptype}
use Rattle.xf_plain.proofs.Inserting.{IsKept-without}
use Rattle.xf_plain.proofs.plain.Plain.policy_flush.Goals as goal

pub invariant_of-self : goal.invariant_of-self
invariant_of-self c = record {
  policies =
      IsKept-without (λ (p : Policy). meets_one same_ptype c.args.ptype p.spec.ptype) c.self.inside.policies.items _ _ _
      c.self.invariant.policies c.remove_of_ptype.ensures;
  states = c.self.invariant.states;
  seq = c.self.invariant.seq;
}
