use Rattle.std.proofs.Common.{ℕ, subst, sym}
use Rattle.xf_sadidx.specs.Layout.{Fits}
use Rattle.xf_sadidx.proofs.Comings.{take_leaves, take_stands}
use Rattle.xf_sadidx.proofs.index.SadIndex.remove.Goals as goal

pub returns-clause-frame : goal.returns-clause-frame
returns-clause-frame g c =
    take_leaves c.args.self.now.area (g.C.Cells.words c.args.c.now) (g.C.Cells.words c.take_all.new.c) c.args.s.now c.args.slot (g.C.Load.size c.args.c.now)
    c.take_all.ensures.words c.requires.fits

pub returns-clause-entries : goal.returns-clause-entries
returns-clause-entries g c =
    let fits = subst (λ (n : ℕ). Fits c.args.self.now.area n) (sym (g.met.C.Cells.all c.args.c.now)) c.requires.fits in
    λ front back apart st.
    take_stands c.args.self.now.area (g.C.Cells.words c.args.c.now) (g.C.Cells.words c.take_all.new.c) c.args.s.now c.args.slot front back
    c.take_all.ensures.words fits apart st
