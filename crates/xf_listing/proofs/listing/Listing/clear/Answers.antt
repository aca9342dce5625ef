use Rattle.xf_listing.proofs.Settled.{cleared_is}
use Rattle.xf_listing.proofs.listing.Listing.clear.Goals as goal

pub returns-clause-words : goal.returns-clause-words
returns-clause-words g c =
    cleared_is c.args.self.now.area c.exact.result (g.C.Cells.words c.args.c.now) (g.C.Cells.words c.put_thresholds.new.c) (g.C.Cells.words c.clear.new.cells)
    c.args.h4 c.args.h6 c.exact.ensures.is c.put_thresholds.ensures.words c.clear.ensures.words
