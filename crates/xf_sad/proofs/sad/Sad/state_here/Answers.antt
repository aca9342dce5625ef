use Rattle.std.proofs.Common.{◌≡◌, ℕ, List, subst}
use Rattle.xf_sad.proofs.sad.Sad.state_here.Goals as goal

pub returns-clause-answer : goal.returns-clause-answer
returns-clause-answer g c =
    let old : List ℕ = g.C.Cells.words c.args.c.now in
    let same : g.C.Cells.words c.state.new.l ≡ old = g.met.C.Cells.only c.args.c.now _ (c.state.ensures.among.among _ (g.met.C.Cells.own c.state.new.l)) in
    c.state.ensures.answer old (subst (λ (i : List ℕ). g.C.Load.agrees c.state.new.l i) same (g.met.C.Cells.own c.state.new.l))
