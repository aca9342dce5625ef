use Rattle.std.proofs.Common.{◌≡◌, ℕ, subst}
use Rattle.xf_types.specs.declared.call.Reply.TheVariants as reply
use Rattle.xf_statecalls.specs.Sweeps.{Started}
use Rattle.xf_statecalls.proofs.Replied.{all_flushed}
use Rattle.xf_statecalls.proofs.leaving.state_flush.Goals as goal

same_count : (n m : ℕ) → reply.Removed n ≡ reply.Removed m → n ≡ m
same_count n m e = cc

pub returns-clause-started : goal.returns-clause-started
returns-clause-started g c = λ count e.
    subst (λ (n : ℕ). Started n (g.D.Cells.words c.args.parts.now) (g.D.Cells.words c.remove_all-count.new.parts) (g.D.Parts.beside c.args.parts.now) (g.D.Parts.beside c.remove_all-count.new.parts)
    (g.D.Load.begun c.args.parts.now) (g.D.Load.begun c.remove_all-count.new.parts)) (same_count c.remove_all-count.result count e) c.remove_all-count.ensures.started

pub returns-clause-answer : goal.returns-clause-answer
returns-clause-answer g c = λ m r.
    all_flushed c.args.layout.now (g.D.Cells.words c.args.parts.now) (g.D.Cells.words c.remove_all-count.new.parts) (g.D.Parts.beside c.args.parts.now) (g.D.Parts.beside c.remove_all-count.new.parts) m c.args.proto
    c.remove_all-count.result r (c.remove_all-count.ensures.swept m r)
