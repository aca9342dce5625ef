use Rattle.std.proofs.Common.{ℕ, ◌+◌, ◌-◌, List, ap, ◌∙◌, subst, sym, arith}
use Rattle.xf_doubling.specs.declared.doubling.Doubling.{Doubling}
use Rattle.xf_image.specs.Frames.{Frame}
use Rattle.xf_sadidx.specs.Layout.{Fits, doubling_place, doubling_in}
use Rattle.xf_resize.specs.Rooms.{StatesChained}
use Rattle.xf_resize.proofs.Growing.{grown_is, grown_frame, grown_chained}
use Rattle.xf_resize.proofs.resize.Resize.grow.Goals as goal

pub returns-clause-buckets : goal.returns-clause-buckets
returns-clause-buckets g c =
    let a = c.args.self.now.area in
    let fits : Fits a _ = subst (λ (n : ℕ). Fits a n) (sym (g.met.C.Cells.all c.args.c.now)) c.requires.fits in
    let below = c.requires.below in
    let e = ap (doubling_in a) c.begin.ensures.words ∙ grown_is a (g.C.Cells.words c.args.c.now) fits (omega (arith, below)) in
    ap (λ (d : Doubling). d.half + d.half) e

pub returns-clause-pending : goal.returns-clause-pending
returns-clause-pending g c =
    let a = c.args.self.now.area in
    let fits : Fits a _ = subst (λ (n : ℕ). Fits a n) (sym (g.met.C.Cells.all c.args.c.now)) c.requires.fits in
    let below = c.requires.below in
    let e = ap (doubling_in a) c.begin.ensures.words ∙ grown_is a (g.C.Cells.words c.args.c.now) fits (omega (arith, below)) in
    ap (λ (d : Doubling). d.half - d.moved) e ∙ omega arith

pub returns-clause-frame : goal.returns-clause-frame
returns-clause-frame g c =
    let a = c.args.self.now.area in
    subst (λ (w : List ℕ). Frame (doubling_place a) (doubling_place a + 2) (g.C.Cells.words c.args.c.now) w) (sym c.begin.ensures.words) (grown_frame a (g.C.Cells.words c.args.c.now))

pub returns-clause-entries : goal.returns-clause-entries
returns-clause-entries g c =
    let a = c.args.self.now.area in
    let fits : Fits a _ = subst (λ (n : ℕ). Fits a n) (sym (g.met.C.Cells.all c.args.c.now)) c.requires.fits in
    λ entries st. subst (λ (w : List ℕ). StatesChained a w entries) (sym c.begin.ensures.words)
    (grown_chained a (g.C.Cells.words c.args.c.now) entries fits c.requires.below c.requires.pending st)
