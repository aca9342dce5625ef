use Rattle.std.proofs.Common.{ℕ, List, sym, subst}
use Rattle.xf_image.specs.Frames.{Frame}
use Rattle.xf_image.specs.Layout.{end_of}
use Rattle.xf_image.proofs.Setting.{set_frame}
use Rattle.xf_listing.proofs.Settled.{exact_set}
use Rattle.xf_listing.proofs.Wholes.{list_fits, whole_written}
use Rattle.xf_listing.proofs.listing.Listing.move_all.Goals as goal

pub returns-clause-frame : goal.returns-clause-frame
returns-clause-frame g c =
    let a = c.args.self.now.area in
    let image : List ℕ = g.C.Cells.words c.args.c.now in
    whole_written a image (g.C.Cells.words c.move_exact.new.c) (g.C.Cells.words c.plant_all.new.c)
    (subst (λ (w : List ℕ). Frame a.base (end_of a) image w) (sym c.move_exact.ensures.words) (set_frame a image _ c.args.h4 c.args.h6 (list_fits a _ c.requires.fits)))
    c.plant_all.ensures.frame

pub returns-clause-moves : goal.returns-clause-moves
returns-clause-moves g c = λ s es stands.
    let a = c.args.self.now.area in
    c.plant_all.ensures.plants _ es
    (exact_set a (g.C.Cells.words c.args.c.now) (g.C.Cells.words c.move_exact.new.c) _ s es c.args.h4 c.args.h6 (list_fits a _ c.requires.fits) (g.met.C.Cells.all c.args.c.now)
    c.requires.local4 c.requires.remote4 c.requires.local6 c.requires.remote6 c.move_exact.ensures.words stands.list)
