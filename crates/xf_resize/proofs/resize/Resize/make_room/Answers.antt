use Rattle.xf_resize.proofs.resize.Resize.make_room.Goals as goal

pub returns-clause-entries : goal.returns-clause-entries
returns-clause-entries g c = λ entries st. c.advance_if_pending.ensures.entries entries (c.grow_if_due.ensures.entries entries st)
