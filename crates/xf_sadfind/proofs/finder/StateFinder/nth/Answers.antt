use Rattle.std.proofs.Common.{ap, ◌∙◌}
use Rattle.xf_chain.specs.declared.chain.Chain.{Chain}
use Rattle.xf_chain.specs.declared.family.Family.{Family}
use Rattle.xf_chain.specs.Chains.{slots_of}
use Rattle.xf_chain.specs.Families.{chain_at}
use Rattle.xf_index.specs.Indexes.{slots_in}
use Rattle.xf_sadimage.specs.States.{StatesStand}
use Rattle.xf_sadfind.specs.Slots.{nth_slot}
use Rattle.xf_sadfind.proofs.Orders.{order_walk, nth_is}
use Rattle.xf_sadfind.proofs.finder.StateFinder.nth.Goals as goal

pub returns-clause-state : goal.returns-clause-state
returns-clause-state g c = λ image s entries agrees st.
    c.nth_on.ensures.answer image agrees
    ∙ ap (λ (chain : Chain). nth_slot c.args.place (slots_of chain image)) (c.chain-chain.ensures.chain ∙ ap (λ (f : Family). chain_at f 0) c.order.ensures)
    ∙ ap (nth_slot c.args.place) (order_walk c.args.self.now.area image entries (StatesStand.linked st)) ∙ nth_is c.args.place (slots_in entries)
