use Rattle.std.proofs.Common.{◌≡◌, ℕ, List, subst}
use Rattle.xf_sad.proofs.sad.Sad.in_the_way_here.Goals as goal

pub returns-clause-state : goal.returns-clause-state
returns-clause-state g c = λ s es st e.
    let old : List ℕ = g.C.Cells.words c.args.c.now in
    let same : g.C.Cells.words c.in_the_way.new.l ≡ old = g.met.C.Cells.only c.args.c.now _ (c.in_the_way.ensures.among.among _ (g.met.C.Cells.own c.in_the_way.new.l)) in
    let agrees : g.C.Load.agrees c.in_the_way.new.l old = subst (λ (i : List ℕ). g.C.Load.agrees c.in_the_way.new.l i) same (g.met.C.Cells.own c.in_the_way.new.l) in
    c.in_the_way.ensures.state old s es agrees st e
