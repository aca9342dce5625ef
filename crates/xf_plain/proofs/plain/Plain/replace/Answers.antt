use Rattle.std.proofs.Common.{◌≡◌, true, false, subst, sym}
use Rattle.std.specs.Prelude.{find, is_some}
use Rattle.xf_types.specs.declared.policy.Policy.{Policy}
use Rattle.xf_types.specs.Machine.{Machine}
use Rattle.xf_types.specs.PolicyList.{is_same}
use Rattle.xf_plain.proofs.Inserting.{IsKept-replaced}
use Rattle.xf_plain.proofs.plain.Plain.replace.Goals as goal

pub invariant_of-self : goal.invariant_of-self
invariant_of-self c =
    let p : Policy =
    record {
      number = c.self.inside.next_number;
      index = c.args.index;
      added = c.self.inside.time;
      soft = false;
      spec = c.copy.result;
    }
    in
    let found : is_some (find (λ (q : Policy). is_same q.spec c.args.spec.now) c.self.inside.policies.items) ≡ true =
    subst (λ (m : Machine). is_some (find (λ (q : Policy). is_same q.spec c.args.spec.now) m.shown.policies) ≡ true)
    (sym c.self.view_is) c.requires.listed
    in
    record {
      policies = IsKept-replaced (λ (q : Policy). is_same q.spec c.args.spec.now) p c.self.inside.policies.items _ _ _ c.self.invariant.policies
          found c.in-Ok.ensures.ok;
      states = c.self.invariant.states;
      seq = c.self.invariant.seq;
    }
