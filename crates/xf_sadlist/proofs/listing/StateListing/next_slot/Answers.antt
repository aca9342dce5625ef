use Rattle.std.proofs.Common.{◌≡◌, ◌∙◌, rules}
use Rattle.xf_sadimage.specs.Writes.{after_in}
use Rattle.xf_sadlist.proofs.Tallies.{next_slot_is}
use Rattle.xf_sadlist.proofs.listing.StateListing.next_slot.Goals as goal

pub returns-clause-state : goal.returns-clause-state
returns-clause-state g c = λ image s front back r agrees st.
    let e : c.next.result ≡ after_in c.args.self.now.area image c.args.slot = search rules in
    e ∙ next_slot_is c.args.self.now.area image s c.args.slot front back r st
