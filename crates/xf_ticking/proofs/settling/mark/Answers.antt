use Rattle.xf_sadidx.specs.Layout.{end_of}
use Rattle.xf_records.specs.States.{dying_now}
use Rattle.xf_policies.proofs.Others.{others_of}
use Rattle.xf_ticking.proofs.Ages.{listed_marked}
use Rattle.xf_ticking.proofs.settling.mark.Goals as goal

pub returns-clause-others : goal.returns-clause-others
returns-clause-others g c =
    let a = c.args.layout.now.states in
    others_of (g.D.Parts.hidden c.args.parts.now) a.base (end_of a) (g.D.Cells.words c.args.parts.now) (g.D.Cells.words c.set_dying.new.c) c.set_dying.ensures.frame

pub returns-clause-stands : goal.returns-clause-stands
returns-clause-stands g c = λ s front back r st. c.set_dying.ensures.stands s front back r st

pub returns-clause-listed : goal.returns-clause-listed
returns-clause-listed g c =
    let h = c.requires.listed in
    listed_marked c.args.layout.now.states (g.D.Cells.words c.args.parts.now) (g.D.Cells.words c.set_dying.new.c) h.shown _ h.front h.back c.args.slot h.state (dying_now h.state)
    h.stands (c.set_dying.ensures.stands h.shown h.front h.back h.state h.stands)
