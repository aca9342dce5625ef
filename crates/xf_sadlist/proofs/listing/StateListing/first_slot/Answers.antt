use Rattle.std.proofs.Common.{◌≡◌, ◌∙◌, rules}
use Rattle.xf_chain.specs.Chains.{first_in}
use Rattle.xf_chain.specs.Families.{chain_at}
use Rattle.xf_sadidx.specs.Layout.{order_of}
use Rattle.xf_sadlist.proofs.Tallies.{first_slot_is}
use Rattle.xf_sadlist.proofs.listing.StateListing.first_slot.Goals as goal

pub returns-clause-state : goal.returns-clause-state
returns-clause-state g c = λ image s es agrees st.
    let e : c.first.result ≡ first_in (chain_at (order_of c.args.self.now.area) 0) image = search rules in
    e ∙ first_slot_is c.args.self.now.area image s es st
