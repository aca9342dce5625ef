use Rattle.std.proofs.Common.{ap, ◌∙◌}
use Rattle.std.specs.Prelude.{find}
use Rattle.xf_types.specs.declared.call.Reply.TheVariants.{Stale}
use Rattle.xf_types.specs.Machine.{Machine}
use Rattle.xf_types.specs.OneState.{on_found}
use Rattle.xf_types.specs.StateList.{has_sid}
use Rattle.xf_types.specs.TrafficRules.{output_at}
use Rattle.xf_states.specs.Table.{own_in_table}
use Rattle.xf_plain.proofs.KeptStates.{kept-treated}
use Rattle.xf_plain.proofs.Packets.{answers-treated, contended-output, memory-output}
use Rattle.xf_plain.proofs.plain.Plain.output.Goals as goal

pub invariant_of-self : goal.invariant_of-self
invariant_of-self c = record {
  policies = c.self.invariant.policies;
  seq = c.self.invariant.seq;
  states =
      kept-treated (λ s. output_at c.args.len c.self.inside.time s (own_in_table c.self.inside.states s)) c.send.result
      c.self.inside.states c.send.new.self c.in-Some.place _ _ c.in-Some.ensures.within c.send.ensures c.self.invariant.states;
}

pub returns-in-Some-clause-answer : goal.returns-in-Some-clause-answer
returns-in-Some-clause-answer c =
    answers-treated _ (output_at c.args.len) Stale _ c.send.result c.send.new.self c.in-Some.place
    c.in-Some.ensures.within c.in-Some.ensures.state c.send.ensures
    ∙ ap (λ (m : Machine). on_found m Stale (output_at c.args.len) (find (has_sid c.args.sid) m.shown.states)) c.self.view_is

pub returns-in-Some-clause-memory : goal.returns-in-Some-clause-memory
returns-in-Some-clause-memory c =
    memory-output c.args.len c.self.inside.time c.send.result c.self.inside.states c.send.new.self c.in-Some.place
    c.in-Some.ensures.within c.send.ensures

pub returns-in-Some-clause-settled : goal.returns-in-Some-clause-settled
returns-in-Some-clause-settled c =
    contended-output c.args.len c.self.inside.time c.send.result c.self.inside.states c.send.new.self c.in-Some.place
    c.in-Some.ensures.within c.send.ensures
