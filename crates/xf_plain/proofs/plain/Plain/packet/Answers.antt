use Rattle.std.proofs.Common.{ap, ◌∙◌}
use Rattle.xf_types.specs.declared.call.Reply.TheVariants.{NoState}
use Rattle.xf_types.specs.Machine.{Machine}
use Rattle.xf_types.specs.OneState.{on_found}
use Rattle.xf_types.specs.StateList.{latest_match}
use Rattle.xf_types.specs.TrafficRules.{packet_at, id_of_packet}
use Rattle.xf_states.specs.Table.{own_in_table}
use Rattle.xf_plain.proofs.KeptStates.{kept-treated}
use Rattle.xf_plain.proofs.Packets.{answers-treated, contended-packet, memory-packet}
use Rattle.xf_plain.proofs.plain.Plain.packet.Goals as goal

pub invariant_of-self : goal.invariant_of-self
invariant_of-self c = record {
  policies = c.self.invariant.policies;
  seq = c.self.invariant.seq;
  states =
      kept-treated (λ s. packet_at c.args.packet.now c.self.inside.time s (own_in_table c.self.inside.states s)) c.receive.result
      c.self.inside.states c.receive.new.self c.in-Some.place _ _ c.in-Some.ensures.within c.receive.ensures c.self.invariant.states;
}

pub returns-in-Some-clause-answer : goal.returns-in-Some-clause-answer
returns-in-Some-clause-answer c =
    answers-treated _ (packet_at c.args.packet.now) NoState _ c.receive.result c.receive.new.self c.in-Some.place
    c.in-Some.ensures.within (c.in-Some.ensures.state ∙ ap (latest_match c.self.inside.states.states) c.id_of_packet.ensures)
    c.receive.ensures
    ∙ ap (λ (m : Machine). on_found m NoState (packet_at c.args.packet.now) (latest_match m.shown.states (id_of_packet c.args.packet.now)))
    c.self.view_is

pub returns-in-Some-clause-memory : goal.returns-in-Some-clause-memory
returns-in-Some-clause-memory c =
    memory-packet c.args.packet.now c.self.inside.time c.receive.result c.self.inside.states c.receive.new.self c.in-Some.place
    c.in-Some.ensures.within c.receive.ensures

pub returns-in-Some-clause-settled : goal.returns-in-Some-clause-settled
returns-in-Some-clause-settled c =
    contended-packet c.args.packet.now c.self.inside.time c.receive.result c.self.inside.states c.receive.new.self c.in-Some.place
    c.in-Some.ensures.within c.receive.ensures
