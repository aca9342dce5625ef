use Rattle.std.proofs.Common.{◌≡◌, ℕ, List, subst}
use Rattle.xf_sad.proofs.sad.Sad.free_seq_here.Goals as goal

pub returns-clause-state : goal.returns-clause-state
returns-clause-state g c = λ s es range st.
    let old : List ℕ = g.C.Cells.words c.args.c.now in
    let same : g.C.Cells.words c.free_seq.new.l ≡ old = g.met.C.Cells.only c.args.c.now _ (c.free_seq.ensures.among.among _ (g.met.C.Cells.own c.free_seq.new.l)) in
    let agrees : g.C.Load.agrees c.free_seq.new.l old = subst (λ (i : List ℕ). g.C.Load.agrees c.free_seq.new.l i) same (g.met.C.Cells.own c.free_seq.new.l) in
    c.free_seq.ensures.state old s es agrees range st
