use Rattle.std.proofs.Common.{◌≡◌, true, sym, ◌∙◌}
use Rattle.xf_types.specs.StateList.{has_id}
use Rattle.xf_types.specs.TrafficRules.{id_of_packet}
use Rattle.xf_local.specs.Shown.{live_of}
use Rattle.xf_local.proofs.OneState.{packet-treats}
use Rattle.xf_local.proofs.listed.Listed.receive.Goals as goal

pub returns : goal.returns
returns c =
    let named : has_id (id_of_packet c.args.packet.now) c.args.self.now.held.state ≡ true =
    sym (λ i. has_id (c.id_of_packet.ensures i) (c.state.ensures i)) ∙ sym c.if-not-has_id.ensures
    in
    packet-treats c.receive.result (live_of c.args.self.now) c.receive.new.self c.args.packet.now named c.receive.ensures
