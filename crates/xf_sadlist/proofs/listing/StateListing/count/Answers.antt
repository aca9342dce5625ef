use Rattle.std.proofs.Common.{◌≡◌, ◌∙◌, rules}
use Rattle.xf_sadlist.specs.Listed.{count_in}
use Rattle.xf_sadlist.proofs.Tallies.{count_shown}
use Rattle.xf_sadlist.proofs.listing.StateListing.count.Goals as goal

pub returns-clause-state : goal.returns-clause-state
returns-clause-state g c = λ image s es agrees st.
    let e : c.at_most.result ≡ count_in c.args.self.now.area image = search rules in
    e ∙ count_shown c.args.self.now.area image s es st
