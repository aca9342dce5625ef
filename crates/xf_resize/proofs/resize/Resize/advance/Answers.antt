use Rattle.std.proofs.Common.{ℕ, ◌+◌, ◌-◌, List, ap, ◌∙◌, subst, sym, arith}
use Rattle.xf_doubling.specs.declared.doubling.Doubling.{Doubling}
use Rattle.xf_image.specs.Frames.{Frame}
use Rattle.xf_sadidx.specs.Layout.{Fits, doubling_place, doubling_in, chains_end}
use Rattle.xf_resize.specs.Rooms.{StatesChained}
use Rattle.xf_resize.proofs.Advancing.{advanced_is, advanced_frame, advanced_chained}
use Rattle.xf_resize.proofs.resize.Resize.advance.Goals as goal

pub step-requires-clause-pending : goal.step-requires-clause-pending
step-requires-clause-pending g c = let l = c.requires.pending in omega (arith, l)

pub returns-clause-frame : goal.returns-clause-frame
returns-clause-frame g c =
    let a = c.args.self.now.area in
    subst (λ (w : List ℕ). Frame (doubling_place a) (chains_end a) (g.C.Cells.words c.args.c.now) w) (sym c.step.ensures.words)
    (advanced_frame a (g.C.Cells.words c.args.c.now) (g.C.Load.size c.args.c.now) c.requires.fits c.requires.pending)

pub returns-clause-buckets : goal.returns-clause-buckets
returns-clause-buckets g c =
    let a = c.args.self.now.area in
    let fits : Fits a _ = subst (λ (n : ℕ). Fits a n) (sym (g.met.C.Cells.all c.args.c.now)) c.requires.fits in
    let e = ap (doubling_in a) c.step.ensures.words ∙ advanced_is a (g.C.Cells.words c.args.c.now) fits c.requires.pending in
    ap (λ (d : Doubling). d.half + d.half) e

pub returns-clause-pending : goal.returns-clause-pending
returns-clause-pending g c =
    let a = c.args.self.now.area in
    let fits : Fits a _ = subst (λ (n : ℕ). Fits a n) (sym (g.met.C.Cells.all c.args.c.now)) c.requires.fits in
    let e = ap (doubling_in a) c.step.ensures.words ∙ advanced_is a (g.C.Cells.words c.args.c.now) fits c.requires.pending in
    let l = c.requires.pending in
    ap (λ (d : Doubling). d.half - d.moved + 1) e ∙ omega (arith, l)

pub returns-clause-entries : goal.returns-clause-entries
returns-clause-entries g c =
    let a = c.args.self.now.area in
    let fits : Fits a _ = subst (λ (n : ℕ). Fits a n) (sym (g.met.C.Cells.all c.args.c.now)) c.requires.fits in
    λ entries st. subst (λ (w : List ℕ). StatesChained a w entries) (sym c.step.ensures.words)
    (advanced_chained a (g.C.Cells.words c.args.c.now) entries fits c.requires.pending st)
