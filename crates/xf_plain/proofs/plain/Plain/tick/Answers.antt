use Rattle.std.proofs.Common.{ap}
use Rattle.xf_states.specs.Table.{TableView}
use Rattle.xf_plain.proofs.Ages.{IsKept-later, kept-later}
use Rattle.xf_plain.proofs.plain.Plain.tick.Goals as goal

pub invariant_of-self : goal.invariant_of-self
invariant_of-self c = record {
  seq = c.self.invariant.seq;
  policies = IsKept-later c.max-now.result c.self.inside.policies.items _ _ _ c.self.invariant.policies c.age_policies.ensures;
  states =
      kept-later c.max-now.result c.self.inside.states _ _ _ c.self.invariant.states
      (ap (λ (t : TableView). t.states) c.age.ensures);
}
