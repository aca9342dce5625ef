use Rattle.std.proofs.Common.{arith, Bool, List, sym, subst}
use Rattle.xf_rows.specs.Rows.{Row}
use Rattle.xf_statecalls.specs.Left.{StandsFor}
use Rattle.xf_statecalls.specs.Sweeps.{passed}
use Rattle.xf_statecalls.proofs.Rows.{stands_for}
use Rattle.xf_statecalls.proofs.Swept.{started_now}
use Rattle.xf_statecalls.proofs.sweeping.leave_if.Goals as goal

pub returns-then-leaves-clause-started : goal.returns-then-leaves-clause-started
returns-then-leaves-clause-started g c = started_now _ _ _ _ _ _ c.leave.ensures.begun

pub returns-then-leaves-clause-stands : goal.returns-then-leaves-clause-stands
returns-then-leaves-clause-stands g c = λ m t.
    subst (λ (x : Bool). StandsFor c.args.layout.now (g.D.Cells.words c.leave.new.parts) (g.D.Parts.beside c.leave.new.parts) m.shown (passed x t.place.front t.row t.place.back)) (sym c.if-leaves.true)
    (c.leave.ensures.stands m t)

pub returns-clause-stands : goal.returns-clause-stands
returns-clause-stands g c = λ m t.
    subst (λ (x : Bool). StandsFor c.args.layout.now (g.D.Cells.words c.args.parts.now) (g.D.Parts.beside c.args.parts.now) m.shown (passed x t.place.front t.row t.place.back)) (sym c.if-leaves.false)
    (subst (λ (xs : List Row). StandsFor c.args.layout.now (g.D.Cells.words c.args.parts.now) (g.D.Parts.beside c.args.parts.now) m.shown xs) t.place.whole
    (stands_for c.args.layout.now (g.D.Cells.words c.args.parts.now) (g.D.Parts.beside c.args.parts.now) m t.stands))

pub leave-requires-clause-held : goal.leave-requires-clause-held
leave-requires-clause-held g c = c.requires.held c.if-leaves.true

pub returns-then-leaves-clause-out : goal.returns-then-leaves-clause-out
returns-then-leaves-clause-out g c = λ out.
    let less = c.leave.ensures.less in
    let one = c.leave.ensures.out in
    omega (arith, out, less, one)
