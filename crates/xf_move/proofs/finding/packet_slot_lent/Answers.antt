use Rattle.std.proofs.Common.{◌≡◌, List, ℕ, refl, ap, ◌∙◌, subst}
use Rattle.xf_types.specs.StateList.{has_id}
use Rattle.xf_types.specs.TrafficRules.{id_of_packet}
use Rattle.xf_rows.specs.declared.layout.Layout.{Layout}
use Rattle.xf_meaning.specs.Places.{states_of}
use Rattle.xf_values.specs.declared.state_value.StateValue.{StateValue}
use Rattle.xf_live.specs.Passes.{PassView}
use Rattle.xf_traffic.specs.Found.{IsLatest}
use Rattle.xf_move.proofs.finding.packet_slot_lent.Goals as goal

pub returns-clause-found : goal.returns-clause-found
returns-clause-found g c =
    let now : List ℕ = c.packet_slot-slot.new.l.pass.view.image.words in
    let same : now ≡ c.args.pass.view.image.words =
    c.packet_slot-slot.ensures.among.among now refl ∙ ap (λ (p : PassView StateValue). p.view.image.words) c.lend-desk.ensures.pass in
    subst (λ (i : List ℕ). IsLatest (states_of c.args.policies c.args.states) i (has_id (id_of_packet c.args.packet.now)) c.packet_slot-slot.result) same
    (subst (λ (a : Layout). IsLatest a.states now (has_id (id_of_packet c.args.packet.now)) c.packet_slot-slot.result) c.layout_of-layout.ensures.places
    (c.packet_slot-slot.ensures.found now refl))
