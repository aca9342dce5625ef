use Rattle.std.proofs.Common.{◌≡◌, ℕ, List, sym, subst}
use Rattle.xf_inexact.specs.Whole.{SpdStands}
use Rattle.xf_ticking.proofs.policies.policy_count_here.Goals as goal

pub returns-clause-counts : goal.returns-clause-counts
returns-clause-counts g c = record {
  is = λ s es st.
      let j : List ℕ = g.D.Cells.words c.policy_event_count.new.l in
      let own = g.met.D.Cells.own c.policy_event_count.new.l in
      let same : j ≡ g.D.Cells.words c.args.parts.now = g.met.D.Cells.only c.args.parts.now j (c.policy_event_count.ensures.among.among j own) in
      c.policy_event_count.ensures.answer j s es own (subst (λ (i : List ℕ). SpdStands c.args.layout.now.policies i s es) (sym same) st);
}
