use Rattle.std.proofs.Common.{◌≡◌, ℕ, ◌^◌, ◌<◌, ◌∙◌, sym, subst, rules}
use Rattle.xf_sadlist.specs.Listed.{next_sid_in}
use Rattle.xf_sadlist.proofs.Tallies.{next_sid_is, next_sid_young}
use Rattle.xf_sadlist.proofs.listing.StateListing.next_sid.Goals as goal

pub returns-clause-state : goal.returns-clause-state
returns-clause-state g c = λ image s es agrees small st.
    let e : c.saturating_add.result ≡ next_sid_in c.args.self.now.area image = search rules in
    e ∙ next_sid_is c.args.self.now.area image s es small st

pub returns-clause-young : goal.returns-clause-young
returns-clause-young g c = λ image s es agrees st small.
    let e : c.saturating_add.result ≡ next_sid_in c.args.self.now.area image = search rules in
    next_sid_young c.args.self.now.area image s es st (subst (λ (n : ℕ). n < 2 ^ 63) e small) ∙ sym e
