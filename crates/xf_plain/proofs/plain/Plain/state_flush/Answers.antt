use Rattle.std.proofs.Common.{ap}
use Rattle.xf_types.specs.declared.state.Sa.{Sa}
use Rattle.xf_types.specs.Same.{meets_one, same_proto}
use Rattle.xf_states.specs.Table.{TableView}
use Rattle.xf_plain.proofs.KeptStates.{kept-without}
use Rattle.xf_plain.proofs.plain.Plain.state_flush.Goals as goal

pub invariant_of-self : goal.invariant_of-self
invariant_of-self c = record {
  policies = c.self.invariant.policies;
  seq = c.self.invariant.seq;
  states =
      kept-without (λ (s : Sa). meets_one same_proto c.args.proto s.spec.proto) c.self.inside.states.states _ _ _
      c.self.invariant.states (ap (λ (t : TableView). t.states) c.remove_of_proto.ensures);
}
