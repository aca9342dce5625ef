use Rattle.std.proofs.Common.{ℕ, ◌+◌, ◌*◌, ◌≤◌, List, length, subst, ◌∙◌}
use Rattle.xf_exact.proofs.PartLaws.{exact_slots, exact_first_is}
use Rattle.xf_exact.proofs.exact.Exact.first.Goals as goal

pub returns-clause-loads : goal.returns-clause-loads
returns-clause-loads g c = λ image h4 h6 entries agrees tells is.
    subst (λ (slots : List ℕ). g.L.Load.loads c.first_there.new.l ≤ g.L.Load.loads c.args.l.now + 6 + 16 * length slots)
    (exact_slots c.args.self.now.area image h4 h6 c.args.ptype c.args.flow.now entries tells is)
    (c.first_there.ensures.loads image agrees)

pub returns-clause-policy : goal.returns-clause-policy
returns-clause-policy g c = λ image h4 h6 entries agrees tells is stand.
    c.first_there.ensures.answer image agrees
    ∙ exact_first_is c.args.self.now.area image h4 h6 c.args.ptype c.args.flow.now entries tells is stand
