use Rattle.std.proofs.Common.{◌≡◌, ◌+◌, ◌∙◌, rules}
use Rattle.xf_sadlist.specs.Listed.{next_seq_in}
use Rattle.xf_sadlist.proofs.Tallies.{next_seq_is}
use Rattle.xf_sadlist.proofs.listing.StateListing.next_seq.Goals as goal

pub returns-clause-state : goal.returns-clause-state
returns-clause-state g c = λ image s es agrees range st.
    let e : c.at_most.result + 1 ≡ next_seq_in c.args.self.now.area image = search rules in
    e ∙ next_seq_is c.args.self.now.area image s es range st
