use Rattle.std.proofs.Common.{◌∙◌}
use Rattle.xf_inexact.proofs.DropFrames.{policy_frame}
use Rattle.xf_inexact.proofs.Dropping.{part_after}
use Rattle.xf_inexact.proofs.inexact.Inexact.remove.Goals as goal

pub returns-clause-frame : goal.returns-clause-frame
returns-clause-frame g c =
    policy_frame c.args.self.now (g.C.Cells.words c.args.c.now) (g.C.Cells.words c.remove_policy.new.c) (g.C.Load.size c.args.c.now) c.args.slot c.args.p.now
    c.remove_policy.ensures.words (g.met.C.Cells.all c.args.c.now) (g.met.C.Cells.all c.remove_policy.new.c ∙ c.remove_policy.ensures.size) c.requires.fits

pub returns-clause-entries : goal.returns-clause-entries
returns-clause-entries g c = λ h4 h6 front back e apart h.
    part_after c.args.self.now (g.C.Cells.words c.args.c.now) (g.C.Cells.words c.remove_policy.new.c) (g.C.Load.size c.args.c.now) h4 h6 c.args.slot c.args.p.now
    front back c.remove_policy.ensures.words (g.met.C.Cells.all c.args.c.now) c.requires.fits e apart h
