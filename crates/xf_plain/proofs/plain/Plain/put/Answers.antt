use Rattle.std.proofs.Common.{length, ◌<◌, false, subst, sym}
use Rattle.xf_types.specs.declared.policy.Policy.{Policy}
use Rattle.xf_types.specs.Machine.{Machine}
use Rattle.xf_plain.proofs.Inserting.{IsKept-inserted}
use Rattle.xf_plain.proofs.plain.Plain.put.Goals as goal

pub invariant_of-self-2 : goal.invariant_of-self-2
invariant_of-self-2 c =
    let p : Policy =
    record {
      number = c.self.inside.next_number;
      index = c.args.index;
      added = c.self.inside.time;
      soft = false;
      spec = c.copy.result;
    }
    in
    let room : length c.self.inside.policies.items < c.self.inside.max_policies =
    subst (λ (m : Machine). length m.shown.policies < m.shown.max_policies) (sym c.self.view_is) c.requires.room
    in
    record { policies = IsKept-inserted p c.self.inside.policies.items _ _ _ c.self.invariant.policies room c.in_ok-insert.ensures.ok; states = c.self.invariant.states; seq = c.self.invariant.seq }
