use Rattle.std.proofs.Common.{◌≡◌, ℕ, subst}
use Rattle.xf_types.specs.declared.call.Reply.TheVariants as reply
use Rattle.xf_policies.specs.Standing.{Started}
use Rattle.xf_policies.proofs.Answered.{answered_flush, stands_flush}
use Rattle.xf_policies.proofs.leaving.policy_flush.Goals as goal

same_count : (n m : ℕ) → reply.Removed n ≡ reply.Removed m → n ≡ m
same_count n m e = cc

pub returns-clause-started : goal.returns-clause-started
returns-clause-started g c = λ count e.
    subst (λ (n : ℕ). Started n (g.C.Cells.words c.args.c.now) (g.C.Cells.words c.change_all.new.c) (g.C.Load.begun c.args.c.now) (g.C.Load.begun c.change_all.new.c))
    (same_count c.change_all.result count e) c.change_all.ensures.started

pub returns-clause-answer : goal.returns-clause-answer
returns-clause-answer g c = λ s es st.
    answered_flush c.args.spd.now.area (g.C.Cells.words c.change_all.new.c) s es c.args.ptype (g.P.Pool.held c.change_all.new.pool) c.change_all.result (c.change_all.ensures.swept s es st)

pub returns-clause-plain : goal.returns-clause-plain
returns-clause-plain g c = λ s es st. (returns-clause-answer g c s es st).reply

pub returns-clause-stands : goal.returns-clause-stands
returns-clause-stands g c = λ s es st. stands_flush c.args.spd.now.area (g.C.Cells.words c.change_all.new.c) s es c.args.ptype c.change_all.result (c.change_all.ensures.swept s es st)
