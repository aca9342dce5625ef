use Rattle.std.proofs.Common.{◌∙◌}
use Rattle.xf_inexact.proofs.GrowEntries.{ordered_entries}
use Rattle.xf_inexact.proofs.GrowFrames.{ordered_frame}
use Rattle.xf_inexact.proofs.inexact.Inexact.insert.Goals as goal

pub returns-clause-frame : goal.returns-clause-frame
returns-clause-frame g c =
    ordered_frame c.args.self.now (g.C.Cells.words c.args.c.now) (g.C.Cells.words c.put.new.c) (g.C.Load.size c.args.c.now) c.args.slot c.args.p.now
    c.put.ensures.words (g.met.C.Cells.all c.args.c.now) (g.met.C.Cells.all c.put.new.c ∙ c.put.ensures.size) c.requires.fits c.requires.slot c.put.ensures.after

pub returns-clause-entries : goal.returns-clause-entries
returns-clause-entries g c = λ h4 h6 front back inexact stand miss apart few before after part.
    ordered_entries c.args.self.now (g.C.Cells.words c.args.c.now) (g.C.Cells.words c.put.new.c) (g.C.Load.size c.args.c.now) c.args.slot c.args.p.now h4 h6 front back
    c.put.ensures.words (g.met.C.Cells.all c.args.c.now) c.requires.fits c.put.ensures.keys c.requires.slot c.put.ensures.after
    inexact stand miss apart few before after part
