use Rattle.std.proofs.Common.{ℕ, subst, sym}
use Rattle.xf_sadidx.specs.Layout.{Fits}
use Rattle.xf_sadidx.proofs.Comings.{put_leaves, put_stands}
use Rattle.xf_sadidx.proofs.index.SadIndex.insert.Goals as goal

pub returns-clause-frame : goal.returns-clause-frame
returns-clause-frame g c =
    put_leaves c.args.self.now.area (g.C.Cells.words c.args.c.now) (g.C.Cells.words c.put_all.new.c) c.args.s.now c.args.slot (g.C.Load.size c.args.c.now)
    c.put_all.ensures.words c.requires.fits c.requires.slot

pub returns-clause-entries : goal.returns-clause-entries
returns-clause-entries g c =
    let fits = subst (λ (n : ℕ). Fits c.args.self.now.area n) (sym (g.met.C.Cells.all c.args.c.now)) c.requires.fits in
    λ entries miss apart st.
    put_stands c.args.self.now.area (g.C.Cells.words c.args.c.now) (g.C.Cells.words c.put_all.new.c) c.args.s.now c.args.slot entries
    c.put_all.ensures.words fits c.requires.slot miss apart st
