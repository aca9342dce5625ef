use Rattle.xf_records.specs.States.{dying_now}
use Rattle.xf_traffic.proofs.Listed.{listed_changed}
use Rattle.xf_traffic.proofs.following.warn.Goals as goal

pub returns-clause-listed : goal.returns-clause-listed
returns-clause-listed g c =
    let h = c.requires.listed in
    listed_changed c.args.layout.now.states (g.D.Cells.words c.args.parts.now) (g.D.Cells.words c.set_dying.new.c) h.shown _ h.front h.back c.args.slot h.state (dying_now h.state)
    h.stands (c.set_dying.ensures.stands h.shown h.front h.back h.state h.stands)
