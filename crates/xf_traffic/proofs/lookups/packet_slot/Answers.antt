use Rattle.std.proofs.Common.{ap, ◌∙◌}
use Rattle.xf_types.specs.declared.state.SaId.{SaId}
use Rattle.xf_types.specs.StateList.{has_id}
use Rattle.xf_index.specs.Finds.{slot_found}
use Rattle.xf_sadidx.specs.Founds.{latest_in}
use Rattle.xf_traffic.proofs.lookups.packet_slot.Goals as goal

pub returns-clause-found : goal.returns-clause-found
returns-clause-found g c = λ image agrees.
    record {
      is = λ s entries st.
          let chained = st.chained in
          c.living.ensures.state image entries agrees chained.indexed chained.records
          ∙ ap (λ (id : SaId). slot_found (latest_in (has_id id) entries)) c.id_of_packet.ensures;
    }
