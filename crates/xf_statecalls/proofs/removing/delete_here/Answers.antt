use Rattle.xf_rows.specs.Rows.{entries_in}
use Rattle.xf_statecalls.proofs.Standing.{entry_at}
use Rattle.xf_statecalls.proofs.removing.delete_here.Goals as goal

pub returns-clause-begun : goal.returns-clause-begun
returns-clause-begun g c =
    let k = c.requires.occupied in
    c.delete.ensures.begun k.machine.shown (entries_in k.at.place.front) (entries_in k.at.place.back) k.at.row.1.0
    (entry_at c.args.layout.now (g.D.Cells.words c.args.parts.now) (g.D.Parts.beside c.args.parts.now) k.machine c.args.slot k.at)

pub returns-clause-hidden : goal.returns-clause-hidden
returns-clause-hidden g c = g.met.D.Parts.kept_hidden c.delete.new.c c.args.parts.now c.delete.ensures.rest

pub returns-clause-beside : goal.returns-clause-beside
returns-clause-beside g c = g.met.D.Parts.kept c.delete.new.c c.args.parts.now c.delete.ensures.rest

pub returns-clause-pool : goal.returns-clause-pool
returns-clause-pool g c = λ lasts fits.
    let k = c.requires.occupied in
    c.delete.ensures.pool k.machine.shown (entries_in k.at.place.front) (entries_in k.at.place.back) k.at.row.1.0 lasts
    (entry_at c.args.layout.now (g.D.Cells.words c.args.parts.now) (g.D.Parts.beside c.args.parts.now) k.machine c.args.slot k.at) fits

pub returns-clause-returned : goal.returns-clause-returned
returns-clause-returned g c =
    let k = c.requires.occupied in
    c.delete.ensures.returned k.machine.shown (entries_in k.at.place.front) (entries_in k.at.place.back) k.at.row.1.0
    (entry_at c.args.layout.now (g.D.Cells.words c.args.parts.now) (g.D.Parts.beside c.args.parts.now) k.machine c.args.slot k.at)

pub returns-clause-out : goal.returns-clause-out
returns-clause-out g c =
    let k = c.requires.occupied in
    c.delete.ensures.out k.machine.shown (entries_in k.at.place.front) (entries_in k.at.place.back) k.at.row.1.0
    (entry_at c.args.layout.now (g.D.Cells.words c.args.parts.now) (g.D.Parts.beside c.args.parts.now) k.machine c.args.slot k.at)
