use Rattle.std.proofs.Common.{ℕ, ◌≤◌, sym, subst}
use Rattle.xf_inexact.specs.Whole.{whole_end}
use Rattle.xf_policies.specs.Standing.{LeavesOthers}
use Rattle.xf_ticking.proofs.Quiet.{policies_quiet}
use Rattle.xf_ticking.proofs.policies.policies_later_here.Goals as goal

pub policies_later-changes-requires-clause-hidden : goal.policies_later-changes-requires-clause-hidden
policies_later-changes-requires-clause-hidden g c =
    subst (λ (n : ℕ). n ≤ c.args.layout.now.policies.base) (sym (g.met.D.AllParts.same_hidden c.args.parts.now)) c.requires.behind

pub returns-clause-others : goal.returns-clause-others
returns-clause-others g c =
    let a = c.args.layout.now.policies in
    subst (λ (n : ℕ). LeavesOthers n a.base (whole_end a) (g.D.Cells.words c.args.parts.now) (g.D.Cells.words c.policies_later-changes.new.c))
    (g.met.D.AllParts.same_hidden c.args.parts.now) c.policies_later-changes.ensures.others

pub returns-then-count-eq0-clause-later : goal.returns-then-count-eq0-clause-later
returns-then-count-eq0-clause-later g c = λ s es st.
    policies_quiet c.args.layout.now (g.D.Cells.words c.args.parts.now) c.args.now c.args.count s es c.requires.counts c.if-count-eq0.true st
