use Rattle.std.proofs.Common.{ℕ, List, [], ap, sym, ◌∙◌, subst}
use Rattle.xf_image.specs.Frames.{Frame}
use Rattle.xf_inexact.specs.Clears.{all_freed}
use Rattle.xf_inexact.specs.Holds.{HoldPart}
use Rattle.xf_inexact.specs.Places.{end_of}
use Rattle.xf_inexact.proofs.Cleared.{cleared_frame, part_cleared}
use Rattle.xf_inexact.proofs.inexact.Inexact.clear.Goals as goal

pub returns-clause-frame : goal.returns-clause-frame
returns-clause-frame g c =
    subst (λ (w : List ℕ). Frame c.args.self.now.base (end_of c.args.self.now) (g.C.Cells.words c.args.c.now) w)
    (sym (c.free_all.ensures.words ∙ ap (λ (w : List ℕ). all_freed c.args.self.now w) c.clear_tops.ensures.words))
    (cleared_frame c.args.self.now (g.C.Cells.words c.args.c.now))

pub returns-clause-entries : goal.returns-clause-entries
returns-clause-entries g c = λ h4 h6.
    subst (λ (w : List ℕ). HoldPart c.args.self.now w h4 h6 [])
    (sym (c.free_all.ensures.words ∙ ap (λ (w : List ℕ). all_freed c.args.self.now w) c.clear_tops.ensures.words))
    (part_cleared c.args.self.now (g.C.Cells.words c.args.c.now) (g.C.Load.size c.args.c.now) h4 h6 c.requires.fits (g.met.C.Cells.all c.args.c.now))
