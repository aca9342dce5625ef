use Rattle.std.proofs.Common.{ap}
use Rattle.xf_types.specs.StateList.{has_sid}
use Rattle.xf_states.specs.Table.{TableView}
use Rattle.xf_plain.proofs.KeptStates.{kept-without}
use Rattle.xf_plain.proofs.plain.Plain.state_delete.Goals as goal

pub invariant_of-self : goal.invariant_of-self
invariant_of-self c = record {
  policies = c.self.invariant.policies;
  seq = c.self.invariant.seq;
  states =
      kept-without (has_sid c.in-Some.old.now.sid) c.self.inside.states.states _ _ _ c.self.invariant.states
      (ap (λ (t : TableView). t.states) c.remove.ensures);
}
