use Rattle.std.proofs.Common.{find, ap, ◌∙◌}
use Rattle.xf_types.specs.StateList.{has_sid}
use Rattle.xf_chain.specs.declared.chain.Chain.{Chain}
use Rattle.xf_chain.specs.declared.family.Family.{Family}
use Rattle.xf_chain.specs.Chains.{slots_of}
use Rattle.xf_chain.specs.Families.{chain_at}
use Rattle.xf_index.proofs.Finds.{found_slot}
use Rattle.xf_resize.specs.Rooms.{StatesChained}
use Rattle.xf_sadimage.specs.States.{StatesStand}
use Rattle.xf_sadfind.specs.Slots.{has_sid_in}
use Rattle.xf_sadfind.proofs.Orders.{order_walk}
use Rattle.xf_sadfind.proofs.Readings.{sid_tests_hold}
use Rattle.xf_sadfind.proofs.finder.StateFinder.by_sid.Goals as goal

pub returns-clause-state : goal.returns-clause-state
returns-clause-state g c = λ image s entries agrees st.
    let a = c.args.self.now.area in
    c.sid_on.ensures.answer image agrees
    ∙ ap (λ (chain : Chain). find (has_sid_in a image c.args.sid) (slots_of chain image)) (c.chain-chain.ensures.chain ∙ ap (λ (f : Family). chain_at f 0) c.order.ensures)
    ∙ ap (find (has_sid_in a image c.args.sid)) (order_walk a image entries (StatesStand.linked st))
    ∙ found_slot (has_sid_in a image c.args.sid) (has_sid c.args.sid) entries (sid_tests_hold a image c.args.sid entries (StatesChained.records (StatesStand.chained st)))
