use Rattle.std.proofs.Common.{◌∙◌}
use Rattle.xf_inexact.proofs.GrowEntries.{first_entries}
use Rattle.xf_inexact.proofs.GrowFrames.{first_frame}
use Rattle.xf_inexact.proofs.inexact.Inexact.insert_first.Goals as goal

pub returns-clause-frame : goal.returns-clause-frame
returns-clause-frame g c =
    first_frame c.args.self.now (g.C.Cells.words c.args.c.now) (g.C.Cells.words c.put_first.new.c) (g.C.Load.size c.args.c.now) c.args.slot c.args.p.now
    c.put_first.ensures.words (g.met.C.Cells.all c.args.c.now) (g.met.C.Cells.all c.put_first.new.c ∙ c.put_first.ensures.size) c.requires.fits c.requires.slot

pub returns-clause-entries : goal.returns-clause-entries
returns-clause-entries g c = λ h4 h6 back inexact miss apart few part.
    first_entries c.args.self.now (g.C.Cells.words c.args.c.now) (g.C.Cells.words c.put_first.new.c) (g.C.Load.size c.args.c.now) c.args.slot c.args.p.now h4 h6 back
    c.put_first.ensures.words (g.met.C.Cells.all c.args.c.now) c.requires.fits c.put_first.ensures.keys c.requires.slot
    inexact miss apart few part
